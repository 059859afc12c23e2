use Rattle.std.proofs.Common.{ℕ, ◌∙◌, ◌==◌, sym, rules, tests}
use Rattle.std.specs.Char.{to_ascii_uppercase}
use Rattle.std.proofs.lemmas.Bool.{ne_eqb}
use Rattle.std.proofs.lemmas.Iterator.{YieldsList-from_slice, YieldsList-from_zip}
use Rattle.std.proofs.lemmas.Iterator.Consumers.{YieldsList-at}
use Rattle.std.proofs.lemmas.Iterator.Search.{all_from_yields_List}
use Rattle.std.proofs.lemmas.List.{length-map}
use Rattle.order_grammar.specs.Words.{raised}
use Rattle.order_grammar.proofs.WordLemmas.{same_word-lengths, same_word-zip}
use Rattle.order_grammar.proofs.words.is_word.Goals as goal

pub returns-then-written-word : goal.returns-then-written-word
returns-then-written-word c =
    let written = c.args.written.now in
    let word = c.args.word.now in
    let pairs =
    YieldsList-from_zip (YieldsList-at c.zip.ensures.first (YieldsList-from_slice written c.iter.ensures.rest))
    (YieldsList-at c.zip.ensures.second (YieldsList-from_slice word c.iter-then-written-word.ensures.rest)) in
    all_from_yields_List (λ (pair : ℕ × ℕ). to_ascii_uppercase pair.0 == pair.1) c.all.new.self _ c.all.result
    c.all.ensures.ran pairs
    (λ x b q k. search (rules, tests))
    ∙ same_word-zip written word c.if-written-word.true

pub returns-else-written-word : goal.returns-else-written-word
returns-else-written-word c =
    ne_eqb _ _ c.if-written-word.false
    ∙ sym (same_word-lengths (raised c.args.written.now) c.args.word.now
    (λ e. c.if-written-word.false (sym (length-map c.args.written.now _) ∙ e)))
