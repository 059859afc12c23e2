-- If allocation fails as a RAISE is held, the line has made no call.
use Rattle.std.proofs.Common.{◌≡◌, Err, ap, ◌∙◌}
use Rattle.std.proofs.lemmas.Result.{err_from_is_err_and}
use Rattle.legal_runs.specs.declared.runner.RunnerFault.TheVariants.{Memory}
use Rattle.operating.proofs.HeldRaises.{line_unbegun}
use Rattle.operating.specs.CompanyTurn.{state}
use Rattle.operating.specs.TurnCalls.{led_to}
use Rattle.sheets.specs.Part.{line_unread}
use Rattle.operating.proofs.company_turn.CompanyTurn.rule_line.Goals as goal

pub returns-in_err-hold_if_raise-in-Ok-clause-calls :
    goal.returns-in_err-hold_if_raise-in-Ok-clause-calls
returns-in_err-hold_if_raise-in-Ok-clause-calls g c =
    let fault_is = err_from_is_err_and c.from_residual.result c.from_residual.ensures.1 in
    let is : c.from_residual.result ≡ Err Memory = fault_is.1 ∙ ap Err fault_is.2 in
    line_unbegun g.R.Runner.earns c.args.self.now.by c.args.self.now.round (line_unread c.args.line)
    (state c.args.self.now) _ c.args.runner.now (ap (led_to (state c.args.self.now)) is)
