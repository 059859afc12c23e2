use Rattle.std.proofs.Common.{◌∙◌, rules, tests}
use Rattle.std.proofs.lemmas.Iterator.{YieldsList-from_slice}
use Rattle.std.proofs.lemmas.Iterator.Search.{position_from_yields_List}
use Rattle.order_grammar.specs.Readable.{is_end}
use Rattle.order_grammar.proofs.WordLemmas.{position-end}
use Rattle.order_grammar.proofs.read.printable_length.Goals as goal

pub returns-clause-value : goal.returns-clause-value
returns-clause-value c =
    let line = c.args.line.now in
    let p =
    position_from_yields_List is_end _ _ c.position.result c.position.ensures.ran
    (YieldsList-from_slice line cc) (λ x b q k. search (rules, tests)) in
    c.unwrap_or.ensures ∙ position-end is_end line c.position.result p
