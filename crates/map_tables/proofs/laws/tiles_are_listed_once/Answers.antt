use Rattle.std.proofs.Common.{refl}
use Rattle.map_tables.specs.Tile.{tiles}
use Rattle.map_tables.proofs.ListedOnce.{tiles_are_46, tile_is_listed}
use Rattle.map_tables.proofs.laws.tiles_are_listed_once.Goals as goal

pub returns-clause-all : goal.returns-clause-all
unfolding tiles
returns-clause-all c = refl

pub returns-clause-once : goal.returns-clause-once
returns-clause-once c = (tiles_are_46, tile_is_listed)
