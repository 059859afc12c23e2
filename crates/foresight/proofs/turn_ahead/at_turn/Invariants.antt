use Rattle.std.proofs.Common.{◌≡◌, ◌<◌, ◌+◌, ◌++◌, ◌∷◌, [], ℕ}
use Rattle.foresight.proofs.Passing.{distance}
use Rattle.foresight.specs.FirstTurn.{after_passes, seat_after}
use Rattle.events.specs.declared.event.Event.TheVariants as event
use Rattle.history.specs.Sound.{IsSound}
use Rattle.totals.specs.LookBack.{priority_of}
use Rattle.foresight.proofs.turn_ahead.at_turn.Given as goal

-- this many have passed, and with those to come they are fewer than there are seats
abbrev pub invariant-loop-seat : goal.invariant-loop-seat
invariant-loop-seat l = record {
  count : ℕ;
  its : seat_after l.fn.history.seats (priority_of l.fn.history.seats l.fn.history.events) count ≡ l.next;
  few : count + distance l.fn.history.seats l.next.0 l.seat.0 < l.fn.history.seats;
  passed : l.history.events ≡ after_passes l.fn.history.seats
      (priority_of l.fn.history.seats l.fn.history.events)
      (l.fn.history.events ++ event.Round l.fn.round ∷ []) count;
  at_table : l.next.0 < l.fn.history.seats;
  seats : l.history.seats ≡ l.fn.history.seats;
  sound : IsSound l.history;
}

abbrev pub decreases-loop-seat : goal.decreases-loop-seat
decreases-loop-seat l = distance l.fn.history.seats l.next.0 l.seat.0
