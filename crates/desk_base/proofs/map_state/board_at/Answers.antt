use Rattle.std.proofs.Common.{◌≤◌, [], length, ap, subst, ◌∙◌}
use Rattle.std.specs.Prelude.{List}
use Rattle.std.proofs.lemmas.List.{take_all}
use Rattle.std.specs.List.{fold}
use Rattle.board_state.specs.MapState.{map_state_of}
use Rattle.desk_base.proofs.Laid.{all_laid}
use Rattle.desk_base.specs.Laid.{laid_then}
use Rattle.events.specs.declared.event.Event.{Event}
use Rattle.totals.specs.Trains.{phase_of}
use Rattle.desk_base.proofs.map_state.board_at.Goals as goal

pub returns : goal.returns
returns c =
    let events = c.args.view.now.events in
    c.loop-event.invariant
    ∙ ap (λ (passed : List Event). fold laid_then (map_state_of [] [] (phase_of events)) passed)
    (take_all c.loop-event.event-index events (subst (λ (all : List Event). length all ≤ c.loop-event.event-index)
    c.events-event-items.ensures.events c.loop-event-test.false))
    ∙ all_laid (phase_of events) events
