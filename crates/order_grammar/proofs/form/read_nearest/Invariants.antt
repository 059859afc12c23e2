use Rattle.std.proofs.Common.{◌≡◌, drop, fold, map, Err}
use Rattle.order_grammar.specs.Form.{rows_reading}
use Rattle.order_grammar.specs.Row.{row_of_form}
use Rattle.order_grammar.specs.Words.{raised, texts_of}
use Rattle.order_grammar.proofs.FormLemmas.{with_row}
use Rattle.order_grammar.proofs.form.read_nearest.Given as goal

-- the nearest so far, and then the other rows
abbrev pub invariant-loop-form : goal.invariant-loop-form
invariant-loop-form l =
    fold (with_row (raised l.first) (texts_of l.rest)) (Err l.nearest) (drop l.form-index (map row_of_form l.forms))
    ≡ rows_reading (map row_of_form l.forms) (raised l.first) (texts_of l.rest)
