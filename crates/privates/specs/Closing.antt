-- What follows the turns of an opening round. Once all privates are sold nothing falls and nothing
-- is paid. Otherwise SV falls by 5 if it is unsold, and at 0 goes to the holder of priority for
-- nothing, with the sales that follow from it. If SV is sold, each sold private pays its revenue,
-- in roster order.
use Rattle.std.specs.Prelude.{ℕ, ◌-◌, Bool, ◌==◌, if◌then◌else◌, List, [], ◌∷◌, ◌++◌, is_none}
use Rattle.events.specs.declared.event.Event.{Event}
use Rattle.events.specs.declared.event.Event.TheVariants as event
use Rattle.totals.specs.LookBack.{cheapest_of, is_sold, priority_of, sv_price_of}
use Rattle.history.specs.Record.{after_revenues}
use Rattle.privates.specs.Sale.{after_private_sale, settled}
use Rattle.tables.specs.Roster.{privates}
use Rattle.tables.specs.declared.roster.Private.TheVariants.{SchuylkillValley}
use Rattle.tables.specs.declared.seat.Seat.{Seat}

-- all privates are sold
abbrev pub all_sold : List Event → Bool
all_sold events = is_none (cheapest_of events)

-- after SV's price has fallen to 0, and SV has gone to a seat for nothing
abbrev pub given_away : List Event → Seat → List Event
given_away events seat = after_private_sale (events ++ event.Price 0 ∷ []) SchuylkillValley seat 0

-- after SV's price has fallen to this; at 0 SV goes to this holder of priority, with the sales that
-- follow
abbrev pub after_fall : ℕ → List Event → ℕ → Seat → List Event
after_fall seats events price holder =
    if price == 0 then settled seats (given_away events holder) else events ++ event.Price price ∷ []

-- after all have passed: SV falls by 5 if it is unsold, and otherwise each sold private pays
abbrev pub after_passing : ℕ → List Event → List Event
after_passing seats events = if is_sold events SchuylkillValley then after_revenues seats events privates
    else after_fall seats events (sv_price_of events - 5) (priority_of seats events)

-- after the turns: once all privates are sold nothing falls and nothing is paid
abbrev pub opening_round_closed : ℕ → List Event → List Event
opening_round_closed seats events = if all_sold events then events else after_passing seats events
