-- Whose sheets for the round that comes are looked at before it is played: nobody's, or one player's own. Sheets of
-- others that are there already are not looked at, so that an answer tells nothing of a rival. All others are as if they
-- sent sheets without lines.
use Rattle.std.specs.Prelude.{ℕ, Bool, if◌then◌else◌, List, [], ◌∷◌, ◌++◌, Option, Some, None}
use Rattle.events.specs.declared.event.Event.{Event}
use Rattle.events.specs.declared.event.Event.TheVariants as event
use Rattle.forced_purchase.specs.declared.operator.Operator.{Operator}
use Rattle.history.specs.Record.{revenues_recorded}
use Rattle.purchases.specs.Discard.{is_president}
use Rattle.purchases.specs.Standing.{after_operating_standing_line}
use Rattle.sheets.specs.CompanyOrders.{company_orders_for}
use Rattle.sheets.specs.Part.{Numbered}
use Rattle.sheets.specs.Taken.{after_lines_before}
use Rattle.tables.specs.declared.round.Round.{Round}
use Rattle.tables.specs.declared.seat.Seat.{Seat}
use Rattle.totals.specs.LookBack.{Game}

-- the file in which a president's orders are looked up: the order file if the sheet is theirs that is looked at,
-- otherwise a file without a sheet
abbrev pub file_of : List ℕ → Option Seat → Option Seat → List ℕ
file_of file president None = []
file_of file president (Some drafter) = if is_president president drafter then file else []

-- the sheet that is looked at is that of a seat
abbrev pub is_drafters : Option Seat → Seat → Bool
is_drafters drafter seat = is_president drafter seat

-- the orders of a company that are looked at, by its president
abbrev pub orders_of : List ℕ → Option Seat → Round → Operator → List Numbered
orders_of file drafter round by =
    if is_drafters drafter by.president then company_orders_for file round by.president.0 by.company else []

-- after the standing lines of the sheet that is looked at, if one is
abbrev pub after_standing_of : List ℕ → Option Seat → Round → List Event → List Event
after_standing_of file None round events = events
after_standing_of file (Some seat) round events =
    after_lines_before after_operating_standing_line file round events seat.0

-- an operating round before its first company: the standing lines are ruled, and the privates have paid
abbrev pub opened_ahead : List ℕ → Option Seat → Round → Game → Game
opened_ahead file drafter round old =
    revenues_recorded (record {
      seats = old.seats;
      events = after_standing_of file drafter round (old.events ++ event.Round round ∷ []);
    })
