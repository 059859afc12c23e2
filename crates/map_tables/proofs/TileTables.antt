-- The tables of the code, tile by tile, are the tables of the definitions.
use Rattle.std.proofs.Common.{◌≡◌, get_or, refl}
use Rattle.map_tables.specs.declared.tiles.TileNo.{TileNo}
use Rattle.map_tables.specs.declared.tiles.TileNo.TheVariants.{T1}
use Rattle.map_tables.specs.declared.tiles.TheConstants.{NUMBERS}
use Rattle.map_tables.specs.Tile.{tile_index_of, number_of_tile, tiles, printed}

-- each tile has its number in the code's table
pub number_at : (tile : TileNo) → get_or NUMBERS (tile_index_of tile) 0 ≡ number_of_tile tile
unfolding tile_index_of tiles number_of_tile printed
number_at T1 = refl
number_at _ = refl
