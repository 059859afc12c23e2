-- Operating rounds: the tiles that were laid and the tokens that were placed, oldest first. Also
-- which companies have operated since the last round began, and how many lines of a seat's sheet
-- were ruled since then.
use Rattle.std.specs.Option.{option_map_or}
use Rattle.std.specs.Prelude.{ℕ, ◌+◌, ◌==◌, Bool, if◌then◌else◌, List, Option, Some, None, is_some}
use Rattle.std.specs.List.{count_by, filter_map, fold}
use Rattle.events.specs.Event.{Lay, Place, operated_by, round_begun_by, ruled_by, tile_laid, token_placed}
use Rattle.events.specs.declared.event.Event.{Event}
use Rattle.totals.specs.LookBack.{in_round, now_said}
use Rattle.tables.specs.Roster.{same_company}
use Rattle.tables.specs.declared.roster.Company.{Company}
use Rattle.tables.specs.declared.seat.Seat.{Seat}

-- the tiles that were laid, oldest first
abbrev pub lays_of : List Event → List Lay
lays_of events = filter_map tile_laid events

-- the tokens that were placed, oldest first, including those of homes
abbrev pub tokens_of : List Event → List (Place × Company)
tokens_of events = filter_map token_placed events

-- how many of them are a company's
abbrev pub tokens_placed : List Event → Company → ℕ
tokens_placed events company = count_by (λ token. same_company token.1 company) (tokens_of events)

-- what is said of a company's turn
abbrev pub turn_said : Company → Option Company → Option Company
turn_said company None = None
turn_said company (Some operated) = if same_company operated company then Some operated else None

-- a company has operated since the last round began
abbrev pub has_operated : List Event → Company → Bool
has_operated events company = is_some (now_said (in_round (λ event. turn_said company (operated_by event))) events)

-- the count of a seat's rulings after one more event: a round begins it again, and a ruling of the
-- seat's line adds one
abbrev pub rulings_then : Seat → ℕ → Event → ℕ
rulings_then seat count event = if is_some (round_begun_by event) then 0 else
    option_map_or (λ by. if by.0 == seat.0 then count + 1 else count) (ruled_by event) count

-- how many lines of a seat's sheet were ruled since the last round began
abbrev pub rulings_in_round : List Event → Seat → ℕ
rulings_in_round events seat = fold (rulings_then seat) 0 events
