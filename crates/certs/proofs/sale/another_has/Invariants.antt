use Rattle.std.proofs.Common.{◌≡◌, ◌-◌}
use Rattle.certs.specs.Sale.{another_has, one_has}
use Rattle.tables.specs.Seat.{left_of, seats_from}
use Rattle.certs.proofs.sale.another_has.Given as goal

-- one of the others has this many where one of those that are still to come has
abbrev pub invariant-loop : goal.invariant-loop
invariant-loop l =
    one_has l.fn.now.events l.fn.company l.fn.least (seats_from l.seats (l.seats - l.counter) (left_of l.seats l.other))
    ≡ another_has l.seats l.fn.now.events l.fn.company l.fn.seat l.fn.least
