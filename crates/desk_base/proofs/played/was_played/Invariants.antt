use Rattle.std.proofs.Common.{◌≡◌, false, take}
use Rattle.std.specs.List.{list_any}
use Rattle.desk_base.specs.Played.{begins}
use Rattle.desk_base.proofs.played.was_played.Given as goal

-- none of the events so far begins the round
abbrev pub invariant-loop-event : goal.invariant-loop-event
invariant-loop-event l = list_any (begins l.round) (take l.event-index l.events) ≡ false
