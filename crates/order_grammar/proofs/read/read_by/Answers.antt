use Rattle.std.proofs.Common.{Result, Err, sym, ap, ◌∙◌}
use Rattle.std.proofs.lemmas.Result.{err_from_is_err_and}
use Rattle.order_grammar.specs.Form.{put_reading}
use Rattle.order_grammar.specs.Line.{order_of}
use Rattle.order_grammar.specs.Row.{rows_of}
use Rattle.order_grammar.specs.declared.fault.Fault.{Fault}
use Rattle.order_grammar.proofs.LineLemmas.{within_reading, within_words}
use Rattle.order_grammar.proofs.read.read_by.Goals as goal

pub returns-in_err-read_order-clause-order : goal.returns-in_err-read_order-clause-order
returns-in_err-read_order-clause-order c =
    let order = c.read_order.new.order in
    let p = err_from_is_err_and c.from_residual-in_err-read_order.result c.from_residual-in_err-read_order.ensures.1 in
    ap order_of p.1 ∙ ap (λ (f : Fault). Err f) p.2
    ∙ sym (ap (λ (r : Result Unit Fault). put_reading r order) c.in_err-read_order.was)
    ∙ c.read_order.ensures
    ∙ within_reading c.args.most (rows_of c.args.grammar) c.args.line.now c.in_ok-words.words
    (sym c.in_ok-words.was ∙ c.words_within.ensures)

pub returns-clause-order : goal.returns-clause-order
returns-clause-order c =
    let order = c.read_order.new.order in
    sym (ap (λ (r : Result Unit Fault). put_reading r order) c.in_ok-read_order.was) ∙ c.read_order.ensures
    ∙ within_reading c.args.most (rows_of c.args.grammar) c.args.line.now c.in_ok-words.words
    (sym c.in_ok-words.was ∙ c.words_within.ensures)

pub returns-clause-words : goal.returns-clause-words
returns-clause-words c = within_words c.args.most c.args.line.now c.in_ok-words.words
    (sym c.in_ok-words.was ∙ c.words_within.ensures)
