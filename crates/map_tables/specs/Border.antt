-- Which hexes are neighbours. The hex to the east is two columns on, the one to the north-east one
-- row up and one column on. Some borders between neighbours are closed: no track crosses them.
use Rattle.std.specs.Prelude.{◌+◌, ◌-◌, Bool, ◌&&◌, ◌||◌, if◌then◌else◌, Option, Some, None, option_and_then, List, []}
use Rattle.std.specs.Prelude.{◌∷◌}
use Rattle.std.specs.List.{list_any}
use Rattle.map_tables.specs.declared.hex.Hex.{Hex}
use Rattle.map_tables.specs.declared.hex.Hex.TheVariants.{E7, F8, C11, D12, C13, B16, C17}
use Rattle.map_tables.specs.declared.side.Side.{Side}
use Rattle.map_tables.specs.declared.side.Side.TheVariants.{SouthWest, West, NorthWest, NorthEast, East, SouthEast}
use Rattle.map_tables.specs.Hex.{row_of, column_of, hex_at, same_hex}

-- the hex that lies at a side of a hex, if the map has one there; no hex lies in a column 0
unfoldable pub adjacent : Hex → Side → Option Hex
adjacent hex SouthWest = hex_at (row_of hex + 1) (column_of hex - 1)
adjacent hex West = hex_at (row_of hex) (column_of hex - 2)
adjacent hex NorthWest = hex_at (row_of hex - 1) (column_of hex - 1)
adjacent hex NorthEast = hex_at (row_of hex - 1) (column_of hex + 1)
adjacent hex East = hex_at (row_of hex) (column_of hex + 2)
adjacent hex SouthEast = hex_at (row_of hex + 1) (column_of hex + 1)

-- the closed borders
abbrev pub closed_borders : List (Hex × Hex)
closed_borders = (E7, F8) ∷ (C11, D12) ∷ (C13, D12) ∷ (B16, C17) ∷ []

-- whether a border is the one between two hexes
abbrev pub joins : Hex → Hex → Hex × Hex → Bool
joins a b (one, other) = (same_hex one a && same_hex other b) || (same_hex one b && same_hex other a)

-- the hex at a side of another is its neighbour, unless the border between them is closed
abbrev pub open_to : Hex → Hex → Option Hex
open_to hex other = if list_any (joins hex other) closed_borders then None else Some other

-- the neighbour at a side of a hex: none off the map, or if the border is closed
unfoldable pub neighbour_of : Hex → Side → Option Hex
neighbour_of hex side = option_and_then (open_to hex) (adjacent hex side)
