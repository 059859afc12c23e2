-- What is new on a page: what the events of the last round laid, placed and moved.
use Rattle.std.specs.Prelude.{Bool, false, ◌&&◌, ◌||◌, is_some, is_none, if◌then◌else◌, List, Option, Some, None}
use Rattle.std.specs.List.{fold}
use Rattle.events.specs.Event.{round_begun_by, square_set, tile_laid, token_placed}
use Rattle.events.specs.declared.event.Event.{Event}
use Rattle.events.specs.declared.event.Placement.{Placement}
use Rattle.map_tables.specs.Hex.{same_hex}
use Rattle.map_tables.specs.OnMap.{same_stop}
use Rattle.map_tables.specs.Place.{stop_of_place}
use Rattle.map_tables.specs.declared.hex.Hex.{Hex}
use Rattle.map_tables.specs.declared.lay.Lay.{Lay}
use Rattle.map_tables.specs.declared.place.Place.{Place}
use Rattle.map_tables.specs.declared.place.Stop.{Stop}
use Rattle.tables.specs.Roster.{same_company}
use Rattle.tables.specs.declared.roster.Company.{Company}
use Rattle.tables.specs.declared.squares.Square.{Square}

-- whether an event of this kind is of the last round, after one more event: none is as a round
-- begins
abbrev pub new_then : (Event → Bool) → Bool → Event → Bool
new_then is_it is_new event = is_none (round_begun_by event) && (is_new || is_it event)

-- whether some event of the last round is of this kind
abbrev pub in_last_round : (Event → Bool) → List Event → Bool
in_last_round is_it events = fold (new_then is_it) false events

-- whether a tile is laid on a hex
abbrev pub lies_on : Hex → Option Lay → Bool
lies_on hex None = false
lies_on hex (Some lay) = same_hex lay.hex hex

-- whether an event lays a tile on a hex
abbrev pub is_lay_on : Hex → Event → Bool
is_lay_on hex event = lies_on hex (tile_laid event)

-- whether a stop, if there is one, is another
abbrev pub names_stop : Stop → Option Stop → Bool
names_stop stop None = false
names_stop stop (Some other) = same_stop other stop

-- whether a token is a company's, and at a stop
abbrev pub stands_at : Stop → Company → Option (Place × Company) → Bool
stands_at stop company None = false
stands_at stop company (Some token) = names_stop stop (stop_of_place token.0) && same_company token.1 company

-- whether an event places a token of a company at a stop
abbrev pub is_token_at : Stop → Company → Event → Bool
is_token_at stop company event = stands_at stop company (token_placed event)

-- whether a square is set for a company
abbrev pub is_set_for : Company → Option Placement → Bool
is_set_for company None = false
is_set_for company (Some placement) = same_company placement.company company

-- whether an event sets the square of a company
abbrev pub is_move_of : Company → Event → Bool
is_move_of company event = is_set_for company (square_set event)

-- the square of a company after it may have been set
abbrev pub square_after : Company → Option Square → Option Placement → Option Square
square_after company now None = now
square_after company now (Some placement) =
    if same_company placement.company company then Some placement.square else now

-- the square of a company after an event, by that before it
abbrev pub square_then : Company → Option Square → Event → Option Square
square_then company now event = square_after company now (square_set event)

-- the squares of a company before the last round and now, after one more event
abbrev pub squares_then : Company → Option Square × Option Square → Event → Option Square × Option Square
squares_then company squares event =
    ((if is_some (round_begun_by event) then squares.1 else squares.0), square_then company squares.1 event)

-- the square of a company before the last round
abbrev pub square_before_round : List Event → Company → Option Square
square_before_round events company = (fold (squares_then company) (None, None) events).0
