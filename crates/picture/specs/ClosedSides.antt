-- Which sides of a hex are closed: another hex lies there, and no track crosses the border to it.
use Rattle.std.specs.Prelude.{Bool, ◌&&◌, not, is_some}
use Rattle.map_tables.specs.Border.{adjacent, neighbour_of}
use Rattle.map_tables.specs.declared.hex.Hex.{Hex}
use Rattle.map_tables.specs.declared.side.Side.{Side}

-- whether the border to the hex at a side is closed
abbrev pub is_closed_side : Hex → Side → Bool
is_closed_side hex side = is_some (adjacent hex side) && not (is_some (neighbour_of hex side))
