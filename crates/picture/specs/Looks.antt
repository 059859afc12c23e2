-- What shows in a hex beside its track: the ground, what its stops are, how many, how many slots
-- each has, and what each is worth. That is what the tile on the hex has, or its print.
use Rattle.std.specs.Prelude.{ℕ, Bool, true, false, Option, None, Some, ltb, nat_lt, ◌==◌, if◌then◌else◌}
use Rattle.map_tables.specs.declared.hex.Hex.{Hex}
use Rattle.map_tables.specs.declared.lay.Lay.{Lay}
use Rattle.map_tables.specs.declared.place.StopNumber.{StopNumber}
use Rattle.map_tables.specs.declared.print.HexKind.{HexKind}
use Rattle.map_tables.specs.declared.print.HexKind.TheVariants.{Open, Grey, Red}
use Rattle.map_tables.specs.declared.side.Side.{Side}
use Rattle.map_tables.specs.declared.tiles.Colour.{Colour}
use Rattle.map_tables.specs.declared.tiles.Colour.TheVariants as colour
use Rattle.map_tables.specs.declared.tiles.TileKind.{TileKind}
use Rattle.map_tables.specs.declared.tiles.TileKind.TheVariants.{Plain, Town, TwoTowns, City, CityB, CitiesNY, CitiesOO}
use Rattle.map_tables.specs.declared.track.Link.{Link}
use Rattle.map_tables.specs.declared.track.TrackEnd.{TrackEnd}
use Rattle.map_tables.specs.declared.track.TrackEnd.TheVariants as end
use Rattle.map_tables.specs.Place.{stop_index_of}
use Rattle.map_tables.specs.Print.{print_of}
use Rattle.map_tables.specs.Tile.{entry_of, stops_of_kind}
use Rattle.picture.specs.declared.look.Shade.{Shade}
use Rattle.picture.specs.declared.look.Shade.TheVariants as shade
use Rattle.picture.specs.declared.look.Stops.{Stops}
use Rattle.picture.specs.declared.look.Stops.TheVariants as stops

-- the ground of a colour
abbrev pub shade_of : Colour → Shade
shade_of colour.White = shade.White
shade_of colour.Yellow = shade.Yellow
shade_of colour.Green = shade.Green
shade_of colour.Brown = shade.Brown

-- what the stops of a hex of a kind are
abbrev pub stops_of : TileKind → Stops
stops_of Plain = stops.Towns
stops_of Town = stops.Towns
stops_of TwoTowns = stops.Towns
stops_of City = stops.Cities
stops_of CityB = stops.Cities
stops_of CitiesNY = stops.Cities
stops_of CitiesOO = stops.Cities

-- the ground of a printed hex: a hex that takes tiles has the colour of its print
abbrev shade_in : HexKind → Colour → Shade
shade_in (Open _) colour = shade_of colour
shade_in Grey _ = shade.Grey
shade_in Red _ = shade.Red

-- what the stops of a printed hex are: a grey one with slots has a city
abbrev stops_in : HexKind → ℕ → Stops
stops_in (Open kind) _ = stops_of kind
stops_in Grey slots = if ltb 0 slots then stops.Cities else stops.Towns
stops_in Red _ = stops.Area

-- what shows on a hex: its tile's part, if one lies there, or its print's
abbrev pub shade_on : Option Lay → Hex → Shade
shade_on (Some lay) _ = shade_of (entry_of lay.tile).colour
shade_on None hex = shade_in (print_of hex).kind (print_of hex).colour

abbrev pub stops_on : Option Lay → Hex → Stops
stops_on (Some lay) _ = stops_of (entry_of lay.tile).kind
stops_on None hex = stops_in (print_of hex).kind (print_of hex).slots

abbrev pub count_on : Option Lay → Hex → ℕ
count_on (Some lay) _ = stops_of_kind (entry_of lay.tile).kind
count_on None hex = (print_of hex).stops

abbrev pub slots_on : Option Lay → Hex → ℕ
slots_on (Some lay) _ = (entry_of lay.tile).slots
slots_on None hex = (print_of hex).slots

-- the worth of a red area is that before phase 5
abbrev pub value_on : Option Lay → Hex → ℕ
value_on (Some lay) _ = (entry_of lay.tile).value
value_on None hex = (print_of hex).value.before_phase_five

-- whether a stop lies where the hex has room, whatever its sides: an area, or a single city
abbrev pub is_on_its_own : Stops → ℕ → Bool
is_on_its_own stops.Area _ = true
is_on_its_own stops.Cities count = nat_lt count 2
is_on_its_own stops.Towns _ = false

-- the side from which track leads to a stop, by its two ends; none if it does not
abbrev side_between : TrackEnd → TrackEnd → StopNumber → Option Side
side_between (end.Side side) (end.Stop its) stop = if stop_index_of its == stop_index_of stop then Some side else None
side_between (end.Side _) (end.Side _) _ = None
side_between (end.Stop _) _ _ = None

-- the side from which a link leads to a stop; none if it does not
abbrev pub side_to : Link → StopNumber → Option Side
side_to link stop = side_between link.a link.b stop
