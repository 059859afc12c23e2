use Rattle.std.proofs.Common.{◌∙◌, ◌==◌, sym, rules, tests}
use Rattle.std.proofs.lemmas.Iterator.{YieldsList-from_slice}
use Rattle.std.proofs.lemmas.Iterator.Search.{position_from_yields_List}
use Rattle.order_grammar.proofs.WordLemmas.{length-before, take-before, position-end}
use Rattle.order_grammar.proofs.words.length_before.Goals as goal

pub returns-clause-value : goal.returns-clause-value
returns-clause-value c =
    let stop = c.args.stop in
    let text = c.args.text.now in
    let p =
    position_from_yields_List (λ b. b == stop) _ _ c.position.result c.position.ensures.ran
    (YieldsList-from_slice text cc) (λ x b q k. search (rules, tests)) in
    c.unwrap_or.ensures ∙ position-end (λ b. b == stop) text c.position.result p ∙ sym (length-before stop text)

pub returns-clause-prefix : goal.returns-clause-prefix
returns-clause-prefix c =
    rw (returns-clause-value c) (take-before c.args.stop c.args.text.now)
