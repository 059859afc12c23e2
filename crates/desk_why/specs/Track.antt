-- What lies behind the ends of a link.
use Rattle.std.specs.Prelude.{Option, None}
use Rattle.map_tables.specs.Border.{neighbour_of}
use Rattle.map_tables.specs.declared.hex.Hex.{Hex}
use Rattle.map_tables.specs.declared.track.TrackEnd.{TrackEnd}
use Rattle.map_tables.specs.declared.track.TrackEnd.TheVariants.{Side, Stop}

-- the hex behind an end of track in a hex, if one lies there over an open border
abbrev pub hex_behind : Hex → TrackEnd → Option Hex
hex_behind hex (Side side) = neighbour_of hex side
hex_behind hex (Stop number) = None
