-- The tiles: of each how many there are, its colour, what it shows, and its track. A tile that is
-- turned by r adds r to the numbers of its sides, modulo six.
use Rattle.std.specs.Prelude.{ℕ, ◌==◌, List, [], ◌∷◌, Option, find}
use Rattle.std.specs.List.{position_or_len}
use Rattle.map_tables.specs.declared.tiles.TileNo.{TileNo}
use Rattle.map_tables.specs.declared.tiles.TileNo.TheVariants.{
  T1,
  T2,
  T3,
  T4,
  T7,
  T8,
  T9,
  T14,
  T15,
  T16,
  T18,
  T19,
  T20,
  T23,
  T24,
  T25,
  T26,
  T27,
  T28,
  T29,
  T39,
  T40,
  T41,
  T42,
  T43,
  T44,
  T45,
  T46,
  T47,
  T53,
  T54,
  T55,
  T56,
  T57,
  T58,
  T59,
  T61,
  T62,
  T63,
  T64,
  T65,
  T66,
  T67,
  T68,
  T69,
  T70,
}
use Rattle.map_tables.specs.declared.tiles.TileKind.{TileKind}
use Rattle.map_tables.specs.declared.tiles.TileKind.TheVariants.{Plain, Town, TwoTowns, City, CityB, CitiesNY, CitiesOO}
use Rattle.map_tables.specs.declared.tiles.Colour.{Colour}
use Rattle.map_tables.specs.declared.tiles.Colour.TheVariants.{Yellow, Green, Brown}
use Rattle.map_tables.specs.declared.tiles.TileEntry.{TileEntry}
use Rattle.map_tables.specs.declared.track.TrackSegment.{TrackSegment}
use Rattle.map_tables.specs.Track.{in_order, through, stop_track}

-- the tiles, in the order of their numbers
unfoldable pub tiles : List TileNo
tiles =
    T1 ∷ T2 ∷ T3 ∷ T4 ∷ T7 ∷ T8 ∷ T9 ∷ T14 ∷ T15 ∷ T16 ∷ T18 ∷ T19 ∷ T20 ∷ T23 ∷ T24 ∷ T25 ∷
    T26 ∷ T27 ∷ T28 ∷ T29 ∷ T39 ∷ T40 ∷ T41 ∷ T42 ∷ T43 ∷ T44 ∷ T45 ∷ T46 ∷ T47 ∷ T53 ∷ T54 ∷
    T55 ∷ T56 ∷ T57 ∷ T58 ∷ T59 ∷ T61 ∷ T62 ∷ T63 ∷ T64 ∷ T65 ∷ T66 ∷ T67 ∷ T68 ∷ T69 ∷ T70 ∷ []

-- how many stops a tile or a hex of a kind has
abbrev pub stops_of_kind : TileKind → ℕ
stops_of_kind Plain = 0
stops_of_kind TwoTowns = 2
stops_of_kind CitiesNY = 2
stops_of_kind CitiesOO = 2
stops_of_kind other = 1

-- an entry of the manifest: how many tiles, the colour, the kind, the value of each stop, and how
-- many tokens a city takes
abbrev pub entry : ℕ → Colour → TileKind → ℕ → ℕ → TileEntry
entry count colour kind value slots =
    record { count = count; colour = colour; kind = kind; value = value; slots = slots }

-- a tile's number and entry, with its track
pub record PrintedTile : Type 0 where
  pub number : ℕ
  pub entry : TileEntry
  pub track : List TrackSegment

-- track alone: number, colour and count, and the track
abbrev plain : ℕ → Colour → ℕ → List TrackSegment → PrintedTile
plain number colour count track =
    record { number = number; entry = entry count colour Plain 0 0; track = in_order track }

-- two stops: number, colour, kind, count, value and slots of each, and the sides of each
abbrev two_stops : ℕ → Colour → TileKind → ℕ → ℕ → ℕ → List ℕ → List ℕ → PrintedTile
two_stops number colour kind count value slots first second =
    record { number = number; entry = entry count colour kind value slots; track = in_order (stop_track first second) }

-- one stop: number, colour, kind, count, value, slots and sides
abbrev one_stop : ℕ → Colour → TileKind → ℕ → ℕ → ℕ → List ℕ → PrintedTile
one_stop number colour kind count value slots sides = two_stops number colour kind count value slots sides []

-- the manifest: for each tile its number, and then what the definitions before this say
unfoldable pub printed : TileNo → PrintedTile
printed T7 = plain 7 Yellow 4 (through 0 1 ∷ [])
printed T8 = plain 8 Yellow 8 (through 0 2 ∷ [])
printed T9 = plain 9 Yellow 7 (through 0 3 ∷ [])
printed T16 = plain 16 Green 1 (through 0 2 ∷ through 1 3 ∷ [])
printed T18 = plain 18 Green 1 (through 0 3 ∷ through 1 2 ∷ [])
printed T19 = plain 19 Green 1 (through 0 3 ∷ through 2 4 ∷ [])
printed T20 = plain 20 Green 1 (through 0 3 ∷ through 1 4 ∷ [])
printed T23 = plain 23 Green 3 (through 0 3 ∷ through 0 4 ∷ [])
printed T24 = plain 24 Green 3 (through 0 3 ∷ through 0 2 ∷ [])
printed T25 = plain 25 Green 1 (through 0 2 ∷ through 0 4 ∷ [])
printed T26 = plain 26 Green 1 (through 0 3 ∷ through 0 5 ∷ [])
printed T27 = plain 27 Green 1 (through 0 3 ∷ through 0 1 ∷ [])
printed T28 = plain 28 Green 1 (through 0 4 ∷ through 0 5 ∷ [])
printed T29 = plain 29 Green 1 (through 0 2 ∷ through 0 1 ∷ [])
printed T39 = plain 39 Brown 1 (through 0 2 ∷ through 0 1 ∷ through 1 2 ∷ [])
printed T40 = plain 40 Brown 1 (through 0 2 ∷ through 2 4 ∷ through 0 4 ∷ [])
printed T41 = plain 41 Brown 2 (through 0 3 ∷ through 0 1 ∷ through 1 3 ∷ [])
printed T42 = plain 42 Brown 2 (through 0 3 ∷ through 3 5 ∷ through 0 5 ∷ [])
printed T43 = plain 43 Brown 2 (through 0 3 ∷ through 0 2 ∷ through 1 3 ∷ through 1 2 ∷ [])
printed T44 = plain 44 Brown 1 (through 0 3 ∷ through 1 4 ∷ through 0 1 ∷ through 3 4 ∷ [])
printed T45 = plain 45 Brown 2 (through 0 3 ∷ through 2 4 ∷ through 0 4 ∷ through 2 3 ∷ [])
printed T46 = plain 46 Brown 2 (through 0 3 ∷ through 2 4 ∷ through 3 4 ∷ through 0 2 ∷ [])
printed T47 = plain 47 Brown 1 (through 0 3 ∷ through 1 4 ∷ through 1 3 ∷ through 0 4 ∷ [])
printed T70 = plain 70 Brown 1 (through 0 1 ∷ through 0 2 ∷ through 1 3 ∷ through 2 3 ∷ [])
printed T3 = one_stop 3 Yellow Town 2 10 0 (0 ∷ 1 ∷ [])
printed T58 = one_stop 58 Yellow Town 2 10 0 (0 ∷ 2 ∷ [])
printed T4 = one_stop 4 Yellow Town 2 10 0 (0 ∷ 3 ∷ [])
printed T1 = two_stops 1 Yellow TwoTowns 1 10 0 (1 ∷ 3 ∷ []) (0 ∷ 4 ∷ [])
printed T2 = two_stops 2 Yellow TwoTowns 1 10 0 (0 ∷ 3 ∷ []) (1 ∷ 2 ∷ [])
printed T55 = two_stops 55 Yellow TwoTowns 1 10 0 (0 ∷ 3 ∷ []) (1 ∷ 4 ∷ [])
printed T56 = two_stops 56 Yellow TwoTowns 1 10 0 (0 ∷ 2 ∷ []) (1 ∷ 3 ∷ [])
printed T69 = two_stops 69 Yellow TwoTowns 1 10 0 (0 ∷ 3 ∷ []) (2 ∷ 4 ∷ [])
printed T57 = one_stop 57 Yellow City 4 20 1 (0 ∷ 3 ∷ [])
printed T14 = one_stop 14 Green City 3 30 2 (0 ∷ 1 ∷ 3 ∷ 4 ∷ [])
printed T15 = one_stop 15 Green City 2 30 2 (0 ∷ 1 ∷ 2 ∷ 3 ∷ [])
printed T53 = one_stop 53 Green CityB 2 50 1 (0 ∷ 2 ∷ 4 ∷ [])
printed T63 = one_stop 63 Brown City 3 40 2 (0 ∷ 1 ∷ 2 ∷ 3 ∷ 4 ∷ 5 ∷ [])
printed T61 = one_stop 61 Brown CityB 2 60 1 (0 ∷ 1 ∷ 3 ∷ 5 ∷ [])
printed T54 = two_stops 54 Green CitiesNY 1 60 1 (0 ∷ 1 ∷ []) (2 ∷ 3 ∷ [])
printed T59 = two_stops 59 Green CitiesOO 2 40 1 (0 ∷ []) (2 ∷ [])
printed T62 = two_stops 62 Brown CitiesNY 1 80 2 (0 ∷ 1 ∷ []) (2 ∷ 3 ∷ [])
printed T64 = two_stops 64 Brown CitiesOO 1 50 1 (0 ∷ 2 ∷ []) (3 ∷ 4 ∷ [])
printed T65 = two_stops 65 Brown CitiesOO 1 50 1 (0 ∷ 4 ∷ []) (2 ∷ 3 ∷ [])
printed T66 = two_stops 66 Brown CitiesOO 1 50 1 (0 ∷ 3 ∷ []) (1 ∷ 2 ∷ [])
printed T67 = two_stops 67 Brown CitiesOO 1 50 1 (0 ∷ 3 ∷ []) (2 ∷ 4 ∷ [])
printed T68 = two_stops 68 Brown CitiesOO 1 50 1 (0 ∷ 3 ∷ []) (1 ∷ 4 ∷ [])

-- the number of a tile
unfoldable pub number_of_tile : TileNo → ℕ
number_of_tile tile = (printed tile).number

-- the place of a tile in the order of the tiles, from 0
unfoldable pub tile_index_of : TileNo → ℕ
tile_index_of tile = position_or_len (λ other. number_of_tile tile == number_of_tile other) tiles

-- the tile of a number, if there is one
unfoldable pub tile_numbered : ℕ → Option TileNo
tile_numbered number = find (λ tile. number_of_tile tile == number) tiles

-- the entry of a tile
abbrev pub entry_of : TileNo → TileEntry
entry_of tile = (printed tile).entry

-- the track of a tile that is not turned, in order
abbrev pub tile_track_of : TileNo → List TrackSegment
tile_track_of tile = (printed tile).track
