-- Each hex, tile and print is once in its table.
use Rattle.std.proofs.Common.{◌≡◌, ◌↔◌, true, ltb, length, Some, refl}
use Rattle.std.specs.Prelude.{slice_get, count_by}
use Rattle.std.proofs.lemmas.Bool.{ltb-true}
use Rattle.map_tables.specs.declared.hex.Hex.{Hex}
use Rattle.map_tables.specs.declared.hex.Hex.TheVariants.{A9}
use Rattle.map_tables.specs.declared.tiles.TileNo.{TileNo}
use Rattle.map_tables.specs.declared.tiles.TileNo.TheVariants.{T1}
use Rattle.map_tables.specs.Hex.{hexes, index_of, same_hex, site_of}
use Rattle.map_tables.specs.Tile.{tiles, tile_index_of, number_of_tile, tile_numbered, printed}
use Rattle.map_tables.specs.Print.{groups, plain_hexes, is_one_of}
use Rattle.map_tables.specs.Laws.{IsHexListed, IsTileListed}
use Rattle.map_tables.proofs.HexAt.{hex_at-site}
use Rattle.map_tables.proofs.HexTables.{same_hex-true, same_hex-same}

hex_below : (hex : Hex) → ltb (index_of hex) 93 ≡ true
unfolding index_of hexes site_of
hex_below A9 = refl
hex_below _ = refl

hex_there : (hex : Hex) → slice_get hexes (index_of hex) ≡ Some hex
unfolding hexes index_of site_of
hex_there A9 = refl
hex_there _ = refl

pub hexes_are_93 : length hexes ≡ 93
unfolding hexes
hexes_are_93 = refl

pub hex_is_listed : (hex : Hex) → IsHexListed hex
hex_is_listed hex = record {
  below = ltb-true (index_of hex) 93 (hex_below hex);
  there = hex_there hex;
  found =
      hex_at-site hex;
}

pub hexes_told_apart : (a b : Hex) → (same_hex a b ≡ true) ↔ (a ≡ b)
hexes_told_apart a b = (same_hex-true a b, same_hex-same a b)

tile_below : (tile : TileNo) → ltb (tile_index_of tile) 46 ≡ true
unfolding tile_index_of tiles number_of_tile printed
tile_below T1 = refl
tile_below _ = refl

tile_there : (tile : TileNo) → slice_get tiles (tile_index_of tile) ≡ Some tile
unfolding tiles tile_index_of number_of_tile printed
tile_there T1 = refl
tile_there _ = refl

tile_found : (tile : TileNo) → tile_numbered (number_of_tile tile) ≡ Some tile
unfolding tiles number_of_tile printed tile_numbered
tile_found T1 = refl
tile_found _ = refl

pub tiles_are_46 : length tiles ≡ 46
unfolding tiles
tiles_are_46 = refl

pub tile_is_listed : (tile : TileNo) → IsTileListed tile
tile_is_listed tile = record {
  below = ltb-true (tile_index_of tile) 46 (tile_below tile);
  there =
      tile_there tile;
  found = tile_found tile;
}

pub one_print : (hex : Hex) → count_by (λ group. is_one_of hex group.0) groups ≡ 1
unfolding index_of hexes site_of groups plain_hexes
one_print A9 = refl
one_print _ = refl
