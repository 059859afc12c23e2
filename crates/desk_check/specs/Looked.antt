-- Which sheets are looked at line by line, and which companies their players are to have orders
-- for.
use Rattle.std.specs.Prelude.{Bool, ◌&&◌, ◌||◌, not, List, is_some}
use Rattle.events.specs.declared.event.Event.{Event}
use Rattle.purchases.specs.Discard.{is_president}
use Rattle.tables.specs.declared.roster.Company.{Company}
use Rattle.tables.specs.declared.seat.Seat.{Seat}
use Rattle.totals.specs.Shares.{is_floated, president_of, square_of}

-- the sheets for a round are looked at: all are, or the round is not played, or it was played last
abbrev pub is_looked_at : Bool → Bool → Bool → Bool
is_looked_at all is_played is_last = all || (not is_played || is_last)

-- a seat presides over a company that operates: it has floated, and its token has a square
abbrev pub has_to_order : List Event → Company → Seat → Bool
has_to_order events company seat =
    is_president (president_of events company) seat
    && (is_floated events company && is_some (square_of events company))
