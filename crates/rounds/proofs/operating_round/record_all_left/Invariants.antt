use Rattle.std.proofs.Common.{◌≡◌, ◌-◌, ◌++◌, length}
use Rattle.std.specs.List.{range_with_len}
use Rattle.totals.specs.Operating.{rulings_in_round}
use Rattle.history.specs.Sound.{IsSound}
use Rattle.rounds.specs.OperatingRound.{left_events}
use Rattle.sheets.specs.File.{players_of}
use Rattle.tables.specs.declared.seat.Seat.{Seat}
use Rattle.rounds.proofs.operating_round.record_all_left.Given as goal

-- the seats that are left bring what all bring, and as many lines were ruled
abbrev pub invariant-loop-seat : goal.invariant-loop-seat
invariant-loop-seat l = record {
  seats : l.history.seats ≡ l.fn.history.seats;
  events : l.history.events ++ left_events l.sheets l.round l.fn.history.events
      (range_with_len l.seat (length (players_of l.sheets) - l.seat))
      ≡ l.fn.history.events ++ left_events l.sheets l.round l.fn.history.events
      (range_with_len 0 (length (players_of l.sheets)));
  ruled : (seat : Seat) → rulings_in_round l.history.events seat ≡ rulings_in_round l.fn.history.events seat;
  sound : IsSound l.history;
}
