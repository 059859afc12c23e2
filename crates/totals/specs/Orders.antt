-- What the obeyed standing orders of a seat say: its limit in an auction of a private, which holds
-- for the round. Also the par value that it sets for BO, in this round or an earlier one.
use Rattle.std.specs.Prelude.{ℕ, List, Option}
use Rattle.events.specs.Event.{obeyed_of}
use Rattle.events.specs.Orders.{limit_in, par_of_baltimore_in, said_by}
use Rattle.events.specs.declared.event.Event.{Event}
use Rattle.totals.specs.LookBack.{in_round, last_said, now_said}
use Rattle.tables.specs.declared.roster.Private.{Private}
use Rattle.tables.specs.declared.seat.Seat.{Seat}

-- the limit of a seat in an auction of a private, by its last obeyed order of this round
abbrev pub bid_limit_of : List Event → Private → Seat → Option ℕ
bid_limit_of events private seat = now_said (in_round (λ event. said_by seat (limit_in private) (obeyed_of event)))
    events

-- the par value that a seat sets for BO, by its last obeyed order of this round or an earlier one
abbrev pub par_ordered_of : List Event → Seat → Option ℕ
par_ordered_of events seat = last_said (λ event. said_by seat par_of_baltimore_in (obeyed_of event)) events
