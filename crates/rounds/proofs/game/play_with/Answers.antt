use Rattle.std.proofs.Common.{◌≡◌, suc, Result, Ok, Err, sym, ap, subst, ◌∙◌}
use Rattle.std.proofs.lemmas.Result.{err_from_is_err_and}
use Rattle.operating.proofs.Calls.{no_more, none_after, once_more, silent}
use Rattle.operating.specs.Calls.{Makes, Unasked}
use Rattle.rounds.proofs.OneGame.{was_on}
use Rattle.rounds.proofs.StepByStep.{LeadsOn, breaks_off, called_between, leads_on, silent_stop}
use Rattle.rounds.proofs.StepByStep.{stops_here}
use Rattle.rounds.specs.GameCalls.{GameCalls, PlayStops, RoundCalls}
use Rattle.rounds.specs.Play.{Played}
use Rattle.rounds.specs.Steps.{PlaysNext, Stays, StepLeads}
use Rattle.rounds.specs.declared.fault.PlayFault.{PlayFault}
use Rattle.rounds.specs.declared.fault.PlayFault.TheVariants.{Memory}
use Rattle.rounds.specs.declared.steps.Step.{Step}
use Rattle.rounds.proofs.game.play_with.Goals as goal

pub returns-in_err-end-clause-calls : goal.returns-in_err-end-clause-calls
returns-in_err-end-clause-calls g c =
    let file = c.args.sheets.now in
    let at = c.loop-play.invariant in
    let fault = c.in_err-end.field-0.0 in
    let fault_is = err_from_is_err_and c.from_residual-in_err-end.result c.from_residual-in_err-end.ensures.1 in
    let is : c.from_residual-in_err-end.result ≡ Err fault = fault_is.1 ∙ ap Err fault_is.2 in
    let broken = breaks_off file at.here c.loop-play.play c.step.new.self fault at.stands
    c.in_err-end.ensures.step in
    let course = called_between g.R.Runner.earns file at.here (Err fault) c.loop-play.play
    c.step.new.self _ _
    at.stands broken.0 broken.1 c.in_err-end.ensures.calls in
    subst (λ (met : Result Played PlayFault). Makes g.R.Runner.earns c.args.runner.now (GameCalls file met)
    c.step.new.runner) (sym is)
    (at.calls (Err fault) _ (none_after g.R.Runner.earns (RoundCalls file) (Unasked Memory (PlayStops file)) at.here fault
    _ _ course))

pub loop-play-preserved : goal.loop-play-preserved
loop-play-preserved g c =
    let file = c.args.sheets.now in
    let at = c.loop-play.invariant in
    let step : PlaysNext c.loop-play.play c.in_default.field-0 c.step.new.self =
    subst (λ (step : Step). StepLeads c.loop-play.play (Ok step) c.step.new.self) c.in_default.is
    c.in_ok-end.ensures.step
    in
    let on : LeadsOn file at.here c.step.new.self =
    leads_on file at.here c.loop-play.play c.step.new.self c.in_default.field-0 at.stands step in
    let goes = was_on file at.here on.to on.played in
    let course = called_between g.R.Runner.earns file at.here (Ok on.to) c.loop-play.play
    c.step.new.self _ _
    at.stands on.at.there goes c.in_ok-end.ensures.calls in
    record {
      here = on.to;
      stands = on.at;
      rounds = suc at.rounds;
      reached = (at.here, at.reached, on.played);
      calls =
          λ outcome after made.
          at.calls outcome after
          (once_more g.R.Runner.earns (RoundCalls file) (Unasked Memory (PlayStops file)) at.here on.to outcome _ _ after
          course made);
    }

pub returns-in-Ended-clause-calls : goal.returns-in-Ended-clause-calls
returns-in-Ended-clause-calls g c =
    let file = c.args.sheets.now in
    let at = c.loop-play.invariant in
    let stays : Stays c.loop-play.play c.in-Ended.end c.step.new.self =
    subst (λ (step : Step). StepLeads c.loop-play.play (Ok step) c.step.new.self) c.in-Ended.is c.in_ok-end.ensures.step
    in
    let stops = stops_here file at.here c.loop-play.play c.step.new.self c.in-Ended.end
    c.into_history.result
    at.stands stays c.into_history.ensures.game in
    let same = silent_stop g.R.Runner.earns file at.here c.loop-play.play c.step.new.self _ _
    at.stands
    stops.stopped c.in_ok-end.ensures.calls in
    at.calls (Ok (record { file = file; game = c.into_history.result; end = c.in-Ended.end })) _
    (no_more g.R.Runner.earns (RoundCalls file) (Unasked Memory (PlayStops file)) at.here _ _ _
    (silent g.R.Runner.earns Memory (PlayStops file) at.here _ _ _ stops same))
