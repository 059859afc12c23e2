-- The lines of a player's sheet that a game did not obey in its round, as its events say.
use Rattle.std.specs.Prelude.{ℕ, ◌==◌, Bool, true, false, if◌then◌else◌, List, [], ◌∷◌, Option, Some, None, slice_get}
use Rattle.std.specs.List.{flat_map}
use Rattle.sheets.specs.declared.sheet_key.SheetKey.{SheetKey}
use Rattle.desk_trials.specs.declared.refusals.RefusedLine.{RefusedLine}
use Rattle.desk_why.specs.Refused.{refused_in}
use Rattle.events.specs.RulingText.{verdict_of}
use Rattle.events.specs.declared.event.Event.{Event}
use Rattle.events.specs.declared.event.Event.TheVariants.{Ruled}
use Rattle.events.specs.declared.ruling.Refusal.TheVariants.{Condition}
use Rattle.events.specs.declared.ruling.Verdict.{Verdict}
use Rattle.events.specs.declared.ruling.Verdict.TheVariants as verdict
use Rattle.tables.specs.declared.seat.Seat.{Seat}

-- a line is told of that was refused, but not for its condition, or that has a fault
abbrev pub is_told : Verdict → Bool
is_told verdict.Obeyed = false
is_told (verdict.Refused Condition) = false
is_told (verdict.Refused rule) = true
is_told (verdict.Faulty fault) = true

-- the line with this number, if its ruling, which is at this place, is told of
abbrev pub row_of : ℕ → ℕ → Verdict → List RefusedLine
row_of place number verdict =
    if is_told verdict then record { place = place; number = number; verdict = verdict } ∷ [] else []

-- the line that an event at this place rules, if it is of this seat
abbrev pub row_in : Seat → ℕ → Event → List RefusedLine
row_in seat place (Ruled ruled line ruling) = if ruled.0 == seat.0 then row_of place line (verdict_of ruling) else []
row_in seat place other = []

-- if there is an event
abbrev pub row_by : Seat → ℕ → Option Event → List RefusedLine
row_by seat place None = []
row_by seat place (Some event) = row_in seat place event

-- the line that the event at a place rules
abbrev pub row_at : List Event → Seat → ℕ → List RefusedLine
row_at events seat place = row_by seat place (slice_get events place)

-- the lines of a sheet that were refused in its round, but not for their condition, or have a fault, in the order of their
-- rulings
abbrev pub refused_of : SheetKey → List Event → List RefusedLine
refused_of sent events = flat_map (row_at events sent.seat) (refused_in sent.round events)
