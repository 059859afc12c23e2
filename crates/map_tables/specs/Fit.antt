-- What may lie on the map at all. A tile is of its hex's kind, and its stops are swapped only if
-- there are two; grey and red hexes take none. None of its track leads to a bad side. That is a
-- side off the map, at a closed border, or at a grey or red hex without track at the side that
-- faces it. Each token has a slot of its own, in a city. Colours, the stock and kept slots do not
-- matter here. A slot of each company's home is kept until its token lies there. So in a game the
-- map state has to fit with the home tokens that are still to come.
use Rattle.std.specs.Prelude.{◌≡◌, ℕ, ◌==◌, ◌&&◌, ◌||◌, Bool, true, false, not, nat_lt, List, [], ◌++◌, map, Option}
use Rattle.std.specs.Prelude.{Some, None}
use Rattle.std.specs.List.{filter, list_any}
use Rattle.std.specs.Option.{option_map_or}
use Rattle.map_tables.specs.Border.{neighbour_of}
use Rattle.map_tables.specs.Home.{home_of}
use Rattle.map_tables.specs.Lay.{laid_links_of}
use Rattle.map_tables.specs.OnMap.{has_token, slots_at, taken_at}
use Rattle.map_tables.specs.Place.{place_of, stop_of_place}
use Rattle.map_tables.specs.Print.{print_of, printed_links_of}
use Rattle.map_tables.specs.Side.{facing_of, number_of}
use Rattle.map_tables.specs.Tile.{entry_of}
use Rattle.map_tables.specs.declared.hex.Hex.{Hex}
use Rattle.map_tables.specs.declared.lay.Lay.{Lay}
use Rattle.map_tables.specs.declared.place.Place.{Place}
use Rattle.map_tables.specs.declared.place.Stop.{Stop}
use Rattle.map_tables.specs.declared.print.HexKind.{HexKind}
use Rattle.map_tables.specs.declared.print.HexKind.TheVariants.{Open}
use Rattle.map_tables.specs.declared.side.Side.{Side}
use Rattle.map_tables.specs.declared.tiles.TileKind.{TileKind}
use Rattle.map_tables.specs.declared.tiles.TileKind.TheVariants.{Plain, Town, TwoTowns, City, CityB, CitiesNY, CitiesOO}
use Rattle.map_tables.specs.declared.track.TrackEnd.{TrackEnd}
use Rattle.map_tables.specs.declared.track.TrackEnd.TheVariants.{Side as AtSide, Stop as AtNumber}
use Rattle.tables.specs.Roster.{companies}
use Rattle.tables.specs.declared.roster.Company.{Company}

-- the place of a kind of tile among the kinds
abbrev pub place_of_tile_kind : TileKind → ℕ
place_of_tile_kind Plain = 0
place_of_tile_kind Town = 1
place_of_tile_kind TwoTowns = 2
place_of_tile_kind City = 3
place_of_tile_kind CityB = 4
place_of_tile_kind CitiesNY = 5
place_of_tile_kind CitiesOO = 6

-- whether a hex takes tiles of a kind
abbrev pub takes : HexKind → TileKind → Bool
takes (Open kind) tile = place_of_tile_kind kind == place_of_tile_kind tile
takes other tile = false

-- whether a tile is of another kind than its hex, or its stops are swapped though there are not two
unfoldable pub is_wrong_kind : Lay → Bool
is_wrong_kind lay =
    not (takes (print_of lay.hex).kind (entry_of lay.tile).kind) || (lay.swap && not ((print_of lay.hex).stops == 2))

-- whether tiles are laid on hexes of a kind
abbrev pub is_open : HexKind → Bool
is_open (Open kind) = true
is_open other = false

-- whether an end is this side
abbrev pub is_side : Side → TrackEnd → Bool
is_side side (AtSide other) = number_of other == number_of side
is_side side (AtNumber number) = false

-- whether a printed hex has track at a side
abbrev pub has_print_at : Hex → Side → Bool
has_print_at hex side = list_any (λ link. is_side side link.a || is_side side link.b) (printed_links_of hex)

-- whether track may not reach a hex over this side of it
abbrev pub is_shut : Hex → Side → Bool
is_shut hex side = not (is_open (print_of hex).kind) && not (has_print_at hex side)

-- whether an end of track in a hex is a bad side: it has no neighbour there, or one that is shut
abbrev pub is_bad_end : Hex → TrackEnd → Bool
is_bad_end hex (AtSide side) = option_map_or (λ other. is_shut other (facing_of side)) (neighbour_of hex side) true
is_bad_end hex (AtNumber number) = false

-- whether some track of a tile leads to a bad side
unfoldable pub has_bad_side : Lay → Bool
has_bad_side lay = list_any (λ link. is_bad_end lay.hex link.a || is_bad_end lay.hex link.b) (laid_links_of lay)

-- whether more tokens name a stop than it takes; a place that is no stop takes none
abbrev pub is_over_full : List Lay → List (Place × Company) → Option Stop → Bool
is_over_full lays tokens None = true
is_over_full lays tokens (Some stop) = nat_lt (slots_at lays stop) (taken_at tokens stop)

-- whether a token, with the others that lie there, has no slot
abbrev pub has_no_slot : List Lay → List (Place × Company) → Place × Company → Bool
has_no_slot lays tokens token = is_over_full lays tokens (stop_of_place token.0)

-- these tiles and tokens may lie: they break none of the three rules
pub record AreFit (lays : List Lay) (tokens : List (Place × Company)) : Type 0 where
  pub kinds : list_any is_wrong_kind lays ≡ false
  pub sides : list_any has_bad_side lays ≡ false
  pub slots : list_any (has_no_slot lays tokens) tokens ≡ false

-- a home token
abbrev pub home_token : Company → Place × Company
home_token company = (place_of (home_of company), company)

-- the home tokens that do not lie yet
abbrev pub homes_to_come : List (Place × Company) → List (Place × Company)
homes_to_come tokens = map home_token (filter (λ company. not (has_token tokens (home_of company) company)) companies)

-- these tiles and tokens may lie, with the home tokens to come
abbrev pub AreFitWithHomes : List Lay → List (Place × Company) → Type 0
AreFitWithHomes lays tokens = AreFit lays (tokens ++ homes_to_come tokens)

-- nothing fits: each home has a slot for its token
abbrev pub NothingFits : Type 0
NothingFits = AreFitWithHomes [] []
