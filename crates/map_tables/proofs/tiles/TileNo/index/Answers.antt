use Rattle.std.proofs.Common.{rules}
use Rattle.map_tables.specs.Tile.{tile_index_of, number_of_tile, tiles, printed}
use Rattle.map_tables.proofs.tiles.TileNo.index.Goals as goal

pub returns-clause-value : goal.returns-clause-value
unfolding tile_index_of tiles number_of_tile printed
returns-clause-value c = search rules
