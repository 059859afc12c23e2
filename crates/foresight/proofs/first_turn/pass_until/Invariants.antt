use Rattle.std.proofs.Common.{◌≡◌, ◌<◌, ◌+◌, ℕ}
use Rattle.foresight.proofs.Passing.{distance}
use Rattle.foresight.specs.FirstTurn.{after_passes, seat_after}
use Rattle.foresight.proofs.first_turn.pass_until.Given as goal

-- this many have passed, and with those to come they are fewer than there are seats
abbrev pub invariant-loop-seat : goal.invariant-loop-seat
invariant-loop-seat g l = record {
  count : ℕ;
  its : seat_after l.fn.history.seats l.fn.first count ≡ l.next;
  few : count + distance l.fn.history.seats l.next.0 l.seat.0 < l.fn.history.seats;
  passed : l.history.events ≡ after_passes l.fn.history.seats l.fn.first l.fn.history.events count;
  at_table : l.next.0 < l.fn.history.seats;
  seats : l.history.seats ≡ l.fn.history.seats;
  underway : g.T.TurnRules.holds l.history;
}

abbrev pub decreases-loop-seat : goal.decreases-loop-seat
decreases-loop-seat g l = distance l.fn.history.seats l.next.0 l.seat.0
