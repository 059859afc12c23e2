use Rattle.std.proofs.Common.{◌≡◌, ◌-◌, map}
use Rattle.std.specs.List.{range_with_len}
use Rattle.certs.specs.Dividend.{paid_to_seats}
use Rattle.tables.specs.Seat.{all_seats, seat_at}
use Rattle.history.specs.Games.{IsGame}
use Rattle.certs.proofs.dividend.pay_all.Given as goal

-- the dividends of the seats that are left lead from here where all lead from the start
abbrev pub invariant-loop-seat : goal.invariant-loop-seat
invariant-loop-seat l = record {
  seats : l.history.seats ≡ l.fn.history.seats;
  paid : paid_to_seats l.company l.revenue l.history
      (map seat_at (range_with_len l.seat (l.fn.history.seats - l.seat)))
      ≡ paid_to_seats l.company l.revenue l.fn.history (all_seats l.fn.history.seats);
  game : IsGame l.history;
}
