-- What a hex is: its colour, who keeps it closed, and where its track leads from a side.
use Rattle.std.specs.Prelude.{if◌then◌else◌, Bool, List, Option, Some, None}
use Rattle.std.specs.List.{list_any}
use Rattle.desk_moves.specs.declared.hex_text.Ground.{Ground}
use Rattle.desk_moves.specs.declared.hex_text.Ground.TheVariants as ground
use Rattle.events.specs.declared.event.Event.{Event}
use Rattle.events.specs.declared.event.Holder.{Holder}
use Rattle.events.specs.declared.event.Holder.TheVariants as holder
use Rattle.map_tables.specs.Fit.{is_side}
use Rattle.map_tables.specs.Hex.{same_hex}
use Rattle.map_tables.specs.Home.{hexes_of_private}
use Rattle.map_tables.specs.Print.{print_of}
use Rattle.map_tables.specs.Tile.{entry_of}
use Rattle.map_tables.specs.declared.hex.Hex.{Hex}
use Rattle.map_tables.specs.declared.lay.Lay.{Lay}
use Rattle.map_tables.specs.declared.print.HexKind.{HexKind}
use Rattle.map_tables.specs.declared.print.HexKind.TheVariants.{Grey, Red, Open}
use Rattle.map_tables.specs.declared.side.Side.{Side}
use Rattle.map_tables.specs.declared.tiles.Colour.{Colour}
use Rattle.map_tables.specs.declared.track.Link.{Link}
use Rattle.map_tables.specs.declared.track.TrackEnd.{TrackEnd}
use Rattle.tables.specs.declared.roster.Private.{Private}
use Rattle.tables.specs.declared.seat.Seat.{Seat}
use Rattle.totals.specs.LookBack.{owner_of}

-- the colour of the tile that lies on a hex, or of its print
abbrev pub colour_of : Hex → Option Lay → Colour
colour_of hex None = (print_of hex).colour
colour_of hex (Some lay) = (entry_of lay.tile).colour

-- the ground of a hex of a kind
abbrev pub ground_by : HexKind → Colour → Ground
ground_by (Open kind) colour = ground.Tiles colour
ground_by Grey colour = ground.Grey
ground_by Red colour = ground.Red

-- the ground of a hex with this tile, if one lies there
abbrev pub ground_of : Hex → Option Lay → Ground
ground_of hex lay = ground_by (print_of hex).kind (colour_of hex lay)

-- the player who is this owner, if it is one
abbrev pub player_in : Option Holder → Option Seat
player_in (Some (holder.Seat seat)) = Some seat
player_in other = None

-- a hex is one of a private
abbrev pub is_of_private : Hex → Private → Bool
is_of_private hex private = list_any (λ one. same_hex one hex) (hexes_of_private private)

-- the player who keeps a hex closed, if it is of a private that they own
abbrev pub closed_by : List Event → Hex → Private → Option Seat
closed_by events hex private = if is_of_private hex private then player_in (owner_of events private) else None

-- the end of a link that is not this side, if the side is one of its ends
abbrev pub other_end : Link → Side → Option TrackEnd
other_end link side = if is_side side link.a then Some link.b else if is_side side link.b then Some link.a else None
