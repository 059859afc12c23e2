use Rattle.std.proofs.Common.{[], List, cond, sym, ap, ◌∙◌}
use Rattle.order_grammar.specs.Form.{Row, forms}
use Rattle.order_grammar.specs.Row.{rows_with}
use Rattle.order_grammar.proofs.FormLemmas.{rows_with-grammar}
use Rattle.order_grammar.proofs.form.Grammar.forms.Goals as goal

pub returns-then-has-clause-rows : goal.returns-then-has-clause-rows
returns-then-has-clause-rows c =
    let k = c.args.keyword in
    c.forms_with.ensures.rows
    ∙ ap (λ b. cond {A = List Row} b (rows_with k forms) []) (sym (sym c.has.ensures ∙ c.if-has.true))
    ∙ rows_with-grammar c.args.self k

pub returns-else-has-clause-rows : goal.returns-else-has-clause-rows
returns-else-has-clause-rows c =
    let k = c.args.keyword in
    ap (λ b. cond {A = List Row} b (rows_with k forms) []) (sym (sym c.has.ensures ∙ c.if-has.false))
    ∙ rows_with-grammar c.args.self k
