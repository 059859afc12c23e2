use Rattle.std.proofs.Common.{◌≡◌, [], take}
use Rattle.std.specs.List.{fold}
use Rattle.board_state.specs.MapState.{map_state_of}
use Rattle.desk_base.specs.Laid.{laid_then}
use Rattle.totals.specs.Trains.{phase_of}
use Rattle.desk_base.proofs.map_state.board_at.Given as goal

-- the map state by the events so far
abbrev pub invariant-loop-event : goal.invariant-loop-event
invariant-loop-event l =
    l.board ≡ fold laid_then (map_state_of [] [] (phase_of l.view.events)) (take l.event-index l.view.events)
