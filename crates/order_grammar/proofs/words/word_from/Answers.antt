use Rattle.std.proofs.Common.{◌≡◌, ℕ, ◌+◌, ◌-◌, ◌==◌, not, [], List, Some, None, cond, ltb, length, take, drop, sym, ap}
use Rattle.std.proofs.Common.{subst, ◌∙◌, rules, tests}
use Rattle.std.specs.List.{position_or_len}
use Rattle.std.proofs.lemmas.Iterator.{YieldsList-from_slice}
use Rattle.std.proofs.lemmas.Iterator.Search.{position_from_yields_List}
use Rattle.std.proofs.lemmas.List.{take_rest}
use Rattle.order_grammar.specs.Words.{before, placed_from}
use Rattle.order_grammar.proofs.WordLemmas.{no_word, first_placed}
use Rattle.order_grammar.proofs.words.word_from.Goals as goal

pub returns-in_err-spaces-clause-word : goal.returns-in_err-spaces-clause-word
returns-in_err-spaces-clause-word c =
    let text = c.args.text.now in
    let at = c.args.at in
    let rest = take (length text - at) (drop at text) in
    let p =
    position_from_yields_List (λ b. not (b == 32)) _ _ c.position.result c.position.ensures.ran
    (YieldsList-from_slice rest cc)
    (λ x b q k. search (rules, tests)) in
    let none : placed_from at [] (drop at text) ≡ [] =
    ap (placed_from at []) (sym (take_rest text at)) ∙ no_word at rest c.position.result p c.in_err-spaces.was in
    rw c.from_residual.ensures none

pub returns-clause-word : goal.returns-clause-word
returns-clause-word c =
    let text = c.args.text.now in
    let at = c.args.at in
    let rest = take (length text - at) (drop at text) in
    let p =
    position_from_yields_List (λ b. not (b == 32)) _ _ c.position.result c.position.ensures.ran
    (YieldsList-from_slice rest cc)
    (λ x b q k. search (rules, tests)) in
    let found =
    subst
    (λ (t : List ℕ). c.position.result ≡ cond (ltb (position_or_len (λ b. not (b == 32)) t) (length t))
    (Some (position_or_len (λ b. not (b == 32)) t)) None)
    (take_rest text at) p in
    let size = c.length_before.ensures.value ∙ ap (λ (t : List ℕ). length (before 32 t))
    (take_rest text (at + c.in_ok-spaces.spaces)) in
    first_placed at text c.in_ok-spaces.spaces c.length_before.result c.position.result c.requires found
    c.in_ok-spaces.was size
