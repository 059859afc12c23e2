use Rattle.std.proofs.Common.{Option, Result, Err, sym, ap, ◌∙◌}
use Rattle.std.proofs.lemmas.Result.{err_from_is_err_and}
use Rattle.order_grammar.specs.Condition.{put_ordered}
use Rattle.order_grammar.specs.Limits.{line_most}
use Rattle.order_grammar.specs.Version.{ordered_of}
use Rattle.order_grammar.specs.declared.condition.Condition.{Condition}
use Rattle.order_grammar.specs.declared.fault.Fault.{Fault}
use Rattle.order_grammar.proofs.LineLemmas.{within_version, within_words}
use Rattle.order_grammar.proofs.read.read_line_in.Goals as goal

pub returns-in_err-condition-clause-order : goal.returns-in_err-condition-clause-order
returns-in_err-condition-clause-order c =
    let order = c.read_words.new.order in
    let p = err_from_is_err_and c.from_residual-in_err-condition.result c.from_residual-in_err-condition.ensures.1 in
    ap ordered_of p.1 ∙ ap (λ (f : Fault). Err f) p.2
    ∙ sym (ap (λ (r : Result (Option Condition) Fault). put_ordered r order) c.in_err-condition.was)
    ∙ c.read_words.ensures
    ∙ within_version c.args.version c.args.line.now c.in_ok-words.words (sym c.in_ok-words.was ∙ c.words_within.ensures)

pub returns-clause-order : goal.returns-clause-order
returns-clause-order c =
    let order = c.read_words.new.order in
    sym (ap (λ (r : Result (Option Condition) Fault). put_ordered r order) c.in_ok-condition.was)
    ∙ c.read_words.ensures
    ∙ within_version c.args.version c.args.line.now c.in_ok-words.words (sym c.in_ok-words.was ∙ c.words_within.ensures)

pub returns-clause-words : goal.returns-clause-words
returns-clause-words c = within_words line_most c.args.line.now c.in_ok-words.words
    (sym c.in_ok-words.was ∙ c.words_within.ensures)
