-- What lies on the map at one moment of a game: the tiles and the tokens that were laid, oldest
-- first, and the phase. From this follows the position.
use Rattle.std.specs.Prelude.{ℕ, zero, suc, Bool, true, false, nat_lt, if◌then◌else◌, List, [], ◌∷◌, ◌++◌, map}
use Rattle.map_tables.specs.Hex.{hexes, same_hex}
use Rattle.map_tables.specs.OnMap.{by_tile, links_on, slots_on, tile_on, tokens_at}
use Rattle.map_tables.specs.Place.{joined_hex, stop_at}
use Rattle.map_tables.specs.Print.{print_of, printed_links_of}
use Rattle.map_tables.specs.Tile.{entry_of}
use Rattle.map_tables.specs.declared.hex.Hex.{Hex}
use Rattle.map_tables.specs.declared.lay.Lay.{Lay}
use Rattle.map_tables.specs.declared.place.Place.{Place}
use Rattle.map_tables.specs.declared.place.Stop.{Stop}
use Rattle.map_tables.specs.declared.place.StopNumber.{StopNumber}
use Rattle.map_tables.specs.declared.place.StopNumber.TheVariants.{First, Second}
use Rattle.map_tables.specs.declared.print.HexKind.{HexKind}
use Rattle.map_tables.specs.declared.print.HexKind.TheVariants.{Red}
use Rattle.map_tables.specs.declared.print.PrintedValue.{PrintedValue}
use Rattle.map_tables.specs.declared.track.Link.{Link}
use Rattle.reach.specs.Lawful.{IsLawful}
use Rattle.reach.specs.Position.{AtStop, InHex, Position}
use Rattle.tables.specs.Train.{index_of_kind}
use Rattle.tables.specs.declared.roster.Company.{Company}
use Rattle.tables.specs.declared.rolling_stock.Kind.{Kind}
use Rattle.tables.specs.declared.rolling_stock.Kind.TheVariants.{Five}

-- the map state: the tiles laid so far, the tokens placed so far, and the phase
pub record MapState : Type 0 where
  pub lays : List Lay
  pub tokens : List (Place × Company)
  pub phase : Kind

-- the map state after these lays and tokens, in a phase
abbrev pub map_state_of : List Lay → List (Place × Company) → Kind → MapState
map_state_of lays tokens phase = record { lays = lays; tokens = tokens; phase = phase }

-- the map state once one more tile is laid
abbrev pub with_lay : MapState → Lay → MapState
with_lay laid lay = record laid { lays = laid.lays ++ lay ∷ [] }

-- the map state once one more token is placed
abbrev pub with_token : MapState → Place → Company → MapState
with_token laid place company = record laid { tokens = laid.tokens ++ (place, company) ∷ [] }

-- a printed value in a phase
abbrev pub value_in : Kind → PrintedValue → ℕ
value_in phase value =
    if nat_lt (index_of_kind phase) (index_of_kind Five) then value.before_phase_five else value.from_phase_five

-- what each of its stops is worth
abbrev pub value_on : Kind → List Lay → Hex → ℕ
value_on phase lays hex =
    by_tile (value_in phase (print_of hex).value) (λ lay. (entry_of lay.tile).value) (tile_on lays hex)

-- whether a hex is red
abbrev pub is_red_kind : HexKind → Bool
is_red_kind Red = true
is_red_kind other = false

-- what is at a stop
abbrev pub on_map_at : MapState → Stop → AtStop
on_map_at laid stop = record {
  value = value_on laid.phase laid.lays stop.hex;
  red = is_red_kind (print_of stop.hex).kind;
  slots = slots_on laid.lays stop.hex;
  tokens = tokens_at laid.tokens stop;
}

-- the numbers of this many stops
abbrev pub stop_numbers : ℕ → List StopNumber
stop_numbers zero = []
stop_numbers (suc zero) = First ∷ []
stop_numbers (suc (suc more)) = First ∷ Second ∷ []

-- what is at the stops of a hex; a stop that lies in two hexes is kept in the one that names it
abbrev pub stops_in : MapState → Hex → List AtStop
stops_in laid hex = if same_hex (joined_hex hex) hex then map (λ number. on_map_at laid (stop_at hex number))
    (stop_numbers (print_of hex).stops) else []

-- the track in a hex; one that is a part of another's stop is red and takes no tile, so that its
-- print stays
abbrev pub track_in : List Lay → Hex → List Link
track_in lays hex = if same_hex (joined_hex hex) hex then links_on lays hex else printed_links_of hex

-- what is in a hex
abbrev pub on_map_in : MapState → Hex → InHex
on_map_in laid hex = record { links = track_in laid.lays hex; stops = stops_in laid hex }

-- the position
unfoldable pub position_of : MapState → Position
position_of laid = record { hexes = map (on_map_in laid) hexes }

-- each position keeps the laws
abbrev pub MapStatesAreLawful : Type 0
MapStatesAreLawful = (laid : MapState) → IsLawful (position_of laid)
