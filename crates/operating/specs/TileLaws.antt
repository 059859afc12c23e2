-- Laws of tiles. A lay takes its tile from the stock, and the tile that it replaces returns there.
-- Of each number the tiles on the map and those in the stock are as many as the manifest has, and
-- the stock is never short of one.
use Rattle.std.specs.Prelude.{◌≡◌, ℕ, ◌+◌, cond, List, [], ◌∷◌, ◌++◌, Some, None, reverse, ℤ, pos, ◌+ℤ◌, ◌-ℤ◌, ◌≤ℤ◌}
use Rattle.std.specs.List.{count_by}
use Rattle.map_tables.specs.OnMap.{tile_on}
use Rattle.board.specs.LayRules.{map_rules, is_tile, on_map_of}
use Rattle.board.specs.declared.turn.Asker.{Asker}
use Rattle.events.specs.Event.{tile_laid}
use Rattle.events.specs.declared.event.Event.{Event}
use Rattle.events.specs.declared.event.Event.TheVariants.{Laid}
use Rattle.totals.specs.LookBack.{Game, with_event}
use Rattle.totals.specs.Operating.{lays_of}
use Rattle.map_tables.specs.Tile.{entry_of}
use Rattle.map_tables.specs.declared.lay.Lay.{Lay}
use Rattle.map_tables.specs.declared.tiles.TileNo.{TileNo}
use Rattle.operating.specs.MapState.{map_state_now}
use Rattle.operating.specs.Turn.{IsCompanyTurn}
use Rattle.tables.specs.Rules.{first_broken}
use Rattle.tables.specs.declared.roster.Company.{Company}
use Rattle.tables.specs.declared.round.Round.{Round}

-- how many tiles of a number some lays took from the stock
abbrev pub taken_of : List Lay → TileNo → ℕ
taken_of lays tile = count_by (λ lay. is_tile tile (Some lay)) lays

-- how many of a number returned there, with the latest lay first: those that lay where a later one
-- was laid
abbrev pub returned_by : TileNo → List Lay → ℕ
returned_by tile [] = 0
returned_by tile (lay ∷ before) = returned_by tile before + cond (is_tile tile (tile_on (reverse before) lay.hex)) 1 0

-- how many tiles of a number some lays, the oldest first, returned to the stock
abbrev pub returned_of : List Lay → TileNo → ℕ
returned_of lays tile = returned_by tile (reverse lays)

-- the tiles of a number that are in the stock: those of the manifest, without those that were
-- taken, with those that returned
abbrev pub stock_of : List Lay → TileNo → ℤ
stock_of lays tile = (pos (entry_of tile).count -ℤ pos (taken_of lays tile)) +ℤ pos (returned_of lays tile)

-- of each number those on the map and those in the stock are as many as the manifest has, and the
-- stock is short of none
pub record TilesAreAll (events : List Event) : Type 0 where
  pub all : (tile : TileNo) → pos (on_map_of (lays_of events) tile) +ℤ stock_of (lays_of events) tile
      ≡ pos (entry_of tile).count
  pub owes_none : (tile : TileNo) → pos 0 ≤ℤ stock_of (lays_of events) tile

-- at first the tiles on the map and those in the stock are as many as the manifest has
abbrev pub TilesAreAllAtFirst : Type 0
TilesAreAllAtFirst = TilesAreAll []

-- after an event that lays no tile they are still as many
abbrev pub OthersKeepTiles : Type 0
OthersKeepTiles =
    (events : List Event) (event : Event) → tile_laid event ≡ None → TilesAreAll events
    → TilesAreAll (events ++ event ∷ [])

-- after a lay by the rules they are still as many
abbrev pub LaysKeepTiles : Type 0
LaysKeepTiles =
    (game : Game) (company : Company) (asker : Asker) (lay : Lay) (cost : ℕ) →
    first_broken (map_rules (map_state_now game.events) asker lay) ≡ None →
    TilesAreAll game.events → TilesAreAll (with_event game (Laid company lay cost)).events

-- after a company's turn they are still as many
abbrev pub TurnsKeepTiles : Type 0
TurnsKeepTiles =
    (file : List ℕ) (round : Round) (company : Company) (old new : Game) →
    IsCompanyTurn file round company old new → TilesAreAll old.events → TilesAreAll new.events
