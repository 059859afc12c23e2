-- What is told of a ruling that refused an order, beside its rule: the figures that the rule compared, the cause if the rule
-- has several, and the colour of a hex.
use Rattle.std.specs.Prelude.{if◌then◌else◌, List, Option, Some, None}
use Rattle.std.specs.List.{fold}
use Rattle.desk_base.specs.declared.cause.Cause.{Cause}
use Rattle.desk_why.specs.Cause.{cause_of}
use Rattle.desk_why.specs.Figures.{figures_of}
use Rattle.desk_why.specs.declared.refusal_detail.Detail.{Detail}
use Rattle.desk_why.specs.declared.sheet_line.LinePlace.{LinePlace}
use Rattle.events.specs.Event.{tile_laid}
use Rattle.events.specs.declared.event.Event.{Event}
use Rattle.events.specs.declared.ruling.Refusal.{Refusal}
use Rattle.map_tables.specs.Hex.{same_hex}
use Rattle.map_tables.specs.Print.{print_of}
use Rattle.map_tables.specs.Tile.{entry_of}
use Rattle.map_tables.specs.declared.hex.Hex.{Hex}
use Rattle.map_tables.specs.declared.lay.Lay.{Lay}
use Rattle.map_tables.specs.declared.tiles.Colour.{Colour}
use Rattle.order_grammar.specs.declared.condition.Condition.{Condition}
use Rattle.order_grammar.specs.declared.order.Order.{Order}
use Rattle.totals.specs.LookBack.{Game}
use Rattle.tables.specs.declared.seat.Seat.{Seat}

-- the cause, if it is known where the order stands
abbrev pub cause_at : Game → Seat → Option LinePlace → Order → Refusal → Option Cause
cause_at game seat None its rule = None
cause_at game seat (Some place) its rule = cause_of game seat place its rule

-- the figures and the cause of a rule that refused an order of a seat with its condition, which stands there
abbrev pub detail_of :
    Game → Seat → Option LinePlace → Option Condition → Order → Refusal → Detail
detail_of game seat place condition its rule =
    record {
      figures = figures_of game seat condition its rule;
      cause = cause_at game seat place its rule;
    }

-- the colour of a hex with this tile, if one is laid, and it is laid there
abbrev pub colour_with : Hex → Colour → Option Lay → Colour
colour_with hex colour None = colour
colour_with hex colour (Some lay) = if same_hex lay.hex hex then (entry_of lay.tile).colour else colour

-- after one more event
abbrev pub colour_then : Hex → Colour → Event → Colour
colour_then hex colour event = colour_with hex colour (tile_laid event)

-- after some events: that of its print, or of the tile that was laid there last
abbrev pub colour_after : Hex → List Event → Colour
colour_after hex events = fold (colour_then hex) (print_of hex).colour events
