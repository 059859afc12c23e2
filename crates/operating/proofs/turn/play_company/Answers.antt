-- The board that is laid out leaves the game as it was.
use Rattle.std.proofs.Common.{◌≡◌, Result, Ok, Err, ap, sym, subst, ◌∙◌}
use Rattle.std.proofs.lemmas.Result.{err_from_is_err_and}
use Rattle.legal_runs.specs.declared.runner.RunnerFault.{RunnerFault}
use Rattle.totals.specs.LookBack.{Game}
use Rattle.operating.specs.Calls.{Makes}
use Rattle.operating.specs.TurnCalls.{TurnCalls}
use Rattle.operating.proofs.turn.play_company.Goals as goal

pub returns-clause-calls : goal.returns-clause-calls
returns-clause-calls g c =
    subst (λ (game : Game). Makes g.R.Runner.earns c.args.runner.now
    (TurnCalls c.args.sheets.now c.args.round c.args.company game (Ok c.in_ok-played.played.history))
    c.play_on.new.runner) c.in_ok-game.ensures.history c.in_ok-played.ensures.calls

pub returns-in_err-played-clause-calls : goal.returns-in_err-played-clause-calls
returns-in_err-played-clause-calls g c =
    let fault_is = err_from_is_err_and c.from_residual-in_err-played.result c.from_residual-in_err-played.ensures.1 in
    let is : c.from_residual-in_err-played.result ≡ Err c.in_err-played.field-0.0 = fault_is.1 ∙ ap Err fault_is.2 in
    subst (λ (met : Result Game RunnerFault). Makes g.R.Runner.earns c.args.runner.now
    (TurnCalls c.args.sheets.now c.args.round c.args.company c.args.history met) c.play_on.new.runner) (sym is)
    (subst (λ (game : Game). Makes g.R.Runner.earns c.args.runner.now
    (TurnCalls c.args.sheets.now c.args.round c.args.company game (Err c.in_err-played.field-0.0))
    c.play_on.new.runner) c.in_ok-game.ensures.history c.in_err-played.ensures.calls)
