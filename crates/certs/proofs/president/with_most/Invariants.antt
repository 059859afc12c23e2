use Rattle.std.proofs.Common.{◌≡◌, ◌-◌}
use Rattle.certs.specs.President.{successor, with_most}
use Rattle.tables.specs.Seat.{left_of, seats_from}
use Rattle.certs.proofs.president.with_most.Given as goal

-- the best so far and the seats that are still to come have the same first with most
abbrev pub invariant-loop : goal.invariant-loop
invariant-loop g l =
    with_most (g.T.SharesOfSeats.shares l.shares l.company) l.best
    (seats_from l.seats (l.seats - l.counter) (left_of l.seats l.seat))
    ≡ successor (g.T.SharesOfSeats.shares l.shares l.company) l.seats l.initial.best
