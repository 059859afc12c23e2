-- If allocation fails, or the runner's call fails, its calls are those of the order up to there.
use Rattle.std.proofs.Common.{◌≡◌, Err, ap, ◌∙◌}
use Rattle.std.proofs.lemmas.Result.{err_from_is_err_and}
use Rattle.legal_runs.specs.declared.runner.RunnerFault.TheVariants.{Memory}
use Rattle.operating.proofs.RunBestCalls.{best_unanswered, best_unrecorded, broken_unasked}
use Rattle.operating.specs.CompanyTurn.{state}
use Rattle.operating.specs.TurnCalls.{led_to}
use Rattle.order_grammar.specs.declared.order.Order.TheVariants.{Play}
use Rattle.order_grammar.specs.declared.play.PlayOrder.TheVariants.{RunBest}
use Rattle.sheets.specs.Part.{line_with}
use Rattle.operating.proofs.company_turn.CompanyTurn.rule_best.Goals as goal

pub returns-in_err-refuse_best-clause-calls : goal.returns-in_err-refuse_best-clause-calls
returns-in_err-refuse_best-clause-calls g c =
    let fault_is = err_from_is_err_and c.from_residual.result c.from_residual.ensures.1 in
    let is : c.from_residual.result ≡ Err Memory = fault_is.1 ∙ ap Err fault_is.2 in
    broken_unasked g.R.Runner.earns c.args.self.now.by c.args.self.now.round (line_with c.args.line (Play RunBest))
    (state c.args.self.now) c.judge_best.result c.in-Some.rule _ c.args.runner.now
    c.judge_best.ensures c.in-Some.is (ap (led_to (state c.refuse_best.new.self)) is)

pub returns-in_err-revenue-clause-calls : goal.returns-in_err-revenue-clause-calls
returns-in_err-revenue-clause-calls g c =
    let fault_is = err_from_is_err_and c.from_residual-in_err-revenue.result c.from_residual-in_err-revenue.ensures.1 in
    let is : c.from_residual-in_err-revenue.result ≡ Err c.in_err-revenue.field-0.0 = fault_is.1 ∙ ap Err fault_is.2 in
    best_unanswered g.R.Runner.earns c.args.self.now.by c.args.self.now.round (line_with c.args.line (Play RunBest))
    (state c.args.self.now) c.judge_best.result c.in_err-revenue.field-0.0 _ c.args.runner.now
    c.best_revenue.new.runner
    c.judge_best.ensures c.in_default.is (ap (led_to (state c.best_revenue.new.self)) is) c.in_err-revenue.ensures.calls

pub returns-in_err-obey_best-clause-calls : goal.returns-in_err-obey_best-clause-calls
returns-in_err-obey_best-clause-calls g c =
    let fault_is = err_from_is_err_and c.from_residual-in_err-obey_best.result
    c.from_residual-in_err-obey_best.ensures.1 in
    let is : c.from_residual-in_err-obey_best.result ≡ Err Memory = fault_is.1 ∙ ap Err fault_is.2 in
    best_unrecorded g.R.Runner.earns c.args.self.now.by c.args.self.now.round (line_with c.args.line (Play RunBest))
    (state c.args.self.now) c.judge_best.result c.in_ok-revenue.revenue _ c.args.runner.now c.best_revenue.new.runner
    c.judge_best.ensures c.in_default.is (ap (led_to (state c.obey_best.new.self)) is) c.in_ok-revenue.ensures.calls
