-- The points of a hex to which its track leads. The centre is 0,0, a side is 60 long, and y grows
-- downwards.
use Rattle.std.specs.Prelude.{ℤ, pos, negsuc, ◌+ℤ◌, ◌-ℤ◌, ◌*ℤ◌}
use Rattle.map_tables.specs.declared.hex.Hex.{Hex}
use Rattle.map_tables.specs.declared.side.Side.{Side}
use Rattle.map_tables.specs.declared.side.Side.TheVariants.{SouthWest, West, NorthWest, NorthEast, East, SouthEast}
use Rattle.map_tables.specs.Hex.{row_of, column_of}
use Rattle.markup.specs.declared.point.Point.{Point}

-- the point at these whole numbers
abbrev pub point_at : ℤ → ℤ → Point
point_at across down = record { x = across; y = down }

-- the middle of a side
abbrev pub border_point : Side → Point
border_point SouthWest = point_at (negsuc 25) (pos 45)
border_point West = point_at (negsuc 51) (pos 0)
border_point NorthWest = point_at (negsuc 25) (negsuc 44)
border_point NorthEast = point_at (pos 26) (negsuc 44)
border_point East = point_at (pos 52) (pos 0)
border_point SouthEast = point_at (pos 26) (pos 45)

-- the centre of a hex on the map, from its upper left corner: columns are 52 apart and rows 90. Row A
-- is number 65
abbrev pub centre : Hex → Point
centre hex = point_at (pos 52 *ℤ pos (column_of hex)) (pos 90 *ℤ (pos (row_of hex) -ℤ pos 65) +ℤ pos 62)
