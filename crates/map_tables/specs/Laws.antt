-- What holds of the tables.
use Rattle.std.specs.Prelude.{◌≡◌, ℕ, ◌+◌, ◌*◌, ◌<◌, ◌≤◌, Bool, true, ◌&&◌, nat_lt, Some, List, [], ◌∷◌, length}
use Rattle.std.specs.Prelude.{slice_get, count_by, ◌⊎◌, ◌↔◌}
use Rattle.tables.specs.Steps.{iterate}
use Rattle.tables.specs.declared.roster.Company.{Company}
use Rattle.map_tables.specs.declared.hex.Hex.{Hex}
use Rattle.map_tables.specs.declared.side.Side.{Side}
use Rattle.map_tables.specs.declared.side.Rotation.{Rotation}
use Rattle.map_tables.specs.declared.side.Rotation.TheVariants.{One}
use Rattle.map_tables.specs.declared.place.Stop.{Stop}
use Rattle.map_tables.specs.declared.print.HexKind.TheVariants.{Red}
use Rattle.map_tables.specs.declared.tiles.TileNo.{TileNo}
use Rattle.map_tables.specs.declared.lay.Lay.{Lay}
use Rattle.map_tables.specs.declared.track.Link.{Link}
use Rattle.map_tables.specs.Hex.{hexes, index_of, row_of, column_of, same_hex, hex_at}
use Rattle.map_tables.specs.Side.{facing_of, sixths_turned}
use Rattle.map_tables.specs.Border.{neighbour_of}
use Rattle.map_tables.specs.Place.{joined_stop_of}
use Rattle.map_tables.specs.Track.{end_order, turned_track}
use Rattle.map_tables.specs.Tile.{tiles, tile_index_of, number_of_tile, tile_numbered, entry_of, tile_track_of}
use Rattle.map_tables.specs.Print.{groups, is_one_of, print_of, printed_links_of}
use Rattle.map_tables.specs.Lay.{laid_links_of}
use Rattle.map_tables.specs.Home.{home_of}

-- the neighbour over a side has the hex as its neighbour over the facing side
abbrev pub NeighboursPair : Type 0
NeighboursPair =
    (hex : Hex) (side : Side) (other : Hex) → neighbour_of hex side ≡ Some other
    → neighbour_of other (facing_of side) ≡ Some hex

-- the list of hexes has 93, each at its index, which is below 93; and each is the hex at its row
-- and column
pub record IsHexListed (hex : Hex) : Type 0 where
  pub below : index_of hex < 93
  pub there : slice_get hexes (index_of hex) ≡ Some hex
  pub found : hex_at (row_of hex) (column_of hex) ≡ Some hex

abbrev pub HexesAreListedOnce : Type 0
HexesAreListedOnce = (length hexes ≡ 93) × ((hex : Hex) → IsHexListed hex)

-- hexes pass for one exactly if they are one
abbrev pub HexesAreToldApart : Type 0
HexesAreToldApart = (a b : Hex) → (same_hex a b ≡ true) ↔ (a ≡ b)

-- the list of tiles has 46, each at its index, which is below 46; and each is the tile of its
-- number
pub record IsTileListed (tile : TileNo) : Type 0 where
  pub below : tile_index_of tile < 46
  pub there : slice_get tiles (tile_index_of tile) ≡ Some tile
  pub found : tile_numbered (number_of_tile tile) ≡ Some tile

abbrev pub TilesAreListedOnce : Type 0
TilesAreListedOnce = (length tiles ≡ 46) × ((tile : TileNo) → IsTileListed tile)

-- each hex is in one group of the prints
abbrev pub PrintsAreListedOnce : Type 0
PrintsAreListedOnce = (hex : Hex) → count_by (λ group. is_one_of hex group.0) groups ≡ 1

-- six turns by a sixth
abbrev pub SixTurnsAreNone : Type 0
SixTurnsAreNone = (tile : TileNo) → iterate (turned_track One) 6 (tile_track_of tile) ≡ tile_track_of tile

-- a rotation is this many turns by a sixth
abbrev pub TurnsAddUp : Type 0
TurnsAddUp =
    (tile : TileNo) (rotation : Rotation) → turned_track rotation (tile_track_of tile)
    ≡ iterate (turned_track One) (sixths_turned rotation) (tile_track_of tile)

-- the place of a link in the order of a hex's links
abbrev pub link_order : Link → ℕ
link_order link = 8 * end_order link.a + end_order link.b

-- whether a link's first end is a side and comes before its second; so the two differ, and are not
-- both stops
abbrev pub is_link : Link → Bool
is_link link = nat_lt (end_order link.a) 6 && nat_lt (end_order link.a) (end_order link.b)

-- whether a link comes before those that follow it
abbrev pub leads : Link → List Link → Bool
leads link [] = true
leads link (next ∷ rest) = nat_lt (link_order link) (link_order next)

-- whether these are links in order, without repeats
abbrev pub are_links : List Link → Bool
are_links [] = true
are_links (link ∷ rest) = is_link link && leads link rest && are_links rest

-- these links lie in a hex
abbrev pub LieIn : Hex → List Link → Type 0
LieIn hex [] = Unit {0}
LieIn hex (link ∷ rest) = (link.hex ≡ hex) × LieIn hex rest

-- the links of a hex: in order, in that hex, and at most six
pub record AreLinksOf (hex : Hex) (links : List Link) : Type 0 where
  pub in_order : are_links links ≡ true
  pub here : LieIn hex links
  pub few : length links ≤ 6

abbrev pub PrintedLinksAreInOrder : Type 0
PrintedLinksAreInOrder = (hex : Hex) → AreLinksOf hex (printed_links_of hex)

abbrev pub LaidLinksAreInOrder : Type 0
LaidLinksAreInOrder = (lay : Lay) → AreLinksOf lay.hex (laid_links_of lay)

-- the values of the map and of the tiles
abbrev pub ValuesAreAtMost80 : Type 0
ValuesAreAtMost80 =
    ((hex : Hex) → ((print_of hex).value.before_phase_five ≤ 80) × ((print_of hex).value.from_phase_five ≤ 80)) ×
    ((tile : TileNo) → (entry_of tile).value ≤ 80)

-- a stop is itself, or it and the stop that it is part of are red
abbrev pub RedAreasAreJoined : Type 0
RedAreasAreJoined =
    (stop : Stop) → (joined_stop_of stop ≡ stop) ⊎ (((print_of stop.hex).kind ≡ Red)
    × ((print_of (joined_stop_of stop).hex).kind ≡ Red))

-- the print of each home takes a token
abbrev pub HomesTakeTokens : Type 0
HomesTakeTokens = (company : Company) → 0 < (print_of (home_of company).hex).slots
