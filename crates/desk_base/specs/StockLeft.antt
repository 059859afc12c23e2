-- What is left: the tokens that a company has not placed, the trains that the bank has not sold,
-- and the tiles that do not lie on the map.
use Rattle.std.specs.Prelude.{ℕ, ◌-◌, List, Option, Some, None}
use Rattle.board.specs.LayRules.{on_map_of}
use Rattle.events.specs.declared.event.Event.{Event}
use Rattle.totals.specs.Operating.{tokens_placed}
use Rattle.totals.specs.Trains.{trains_sold}
use Rattle.map_tables.specs.Tile.{entry_of}
use Rattle.map_tables.specs.declared.lay.Lay.{Lay}
use Rattle.map_tables.specs.declared.tiles.TileNo.{TileNo}
use Rattle.tables.specs.Roster.{token_supply_of}
use Rattle.tables.specs.Train.{trains_of}
use Rattle.tables.specs.declared.rolling_stock.Kind.{Kind}
use Rattle.tables.specs.declared.roster.Company.{Company}

-- the tokens that a company has not placed
abbrev pub tokens_left : List Event → Company → ℕ
tokens_left events company = token_supply_of company - tokens_placed events company

-- this many of a number, if that has a limit, less some
abbrev pub less_of : Option ℕ → ℕ → Option ℕ
less_of None sold = None
less_of (Some number) sold = Some (number - sold)

-- the trains of a kind that the bank has not sold; none where their number has no limit
abbrev pub trains_left : List Event → Kind → Option ℕ
trains_left events kind = less_of (trains_of kind).number (trains_sold events kind)

-- the tiles of a number that do not lie on the map
abbrev pub tiles_left : List Lay → TileNo → ℕ
tiles_left lays tile = (entry_of tile).count - on_map_of lays tile
