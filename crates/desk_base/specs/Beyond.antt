-- What lies beyond a side of a hex: nothing where the map ends, a hex behind a closed border, or a
-- hex to which the border is open.
use Rattle.std.specs.Prelude.{Option, Some, None}
use Rattle.desk_base.specs.declared.beyond.Beyond.{Beyond}
use Rattle.desk_base.specs.declared.beyond.Beyond.TheVariants.{MapEnd, ClosedBorder, OpenBorder}
use Rattle.map_tables.specs.Border.{adjacent, neighbour_of}
use Rattle.map_tables.specs.declared.hex.Hex.{Hex}
use Rattle.map_tables.specs.declared.side.Side.{Side}

-- beyond a side at which this hex lies: it is a neighbour if the border is open
abbrev pub beyond_hex : Hex → Option Hex → Beyond
beyond_hex other None = ClosedBorder other
beyond_hex other (Some neighbour) = OpenBorder other

-- beyond a side at which this hex lies, if one does, with this neighbour
abbrev pub beyond_if : Option Hex → Option Hex → Beyond
beyond_if None neighbour = MapEnd
beyond_if (Some other) neighbour = beyond_hex other neighbour

-- beyond a side of a hex
abbrev pub beyond_side : Hex → Side → Beyond
beyond_side hex side = beyond_if (adjacent hex side) (neighbour_of hex side)
