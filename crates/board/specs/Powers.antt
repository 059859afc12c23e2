-- The powers of two privates, used by a company that owns them. With CS it lays on B20, while no
-- tile lies there, beside the lay of its turn and without connection. With DH it may lay 57 on F16
-- without connection, which is the lay of its turn. Its next token there in that turn costs nothing
-- and needs no connection.
use Rattle.std.specs.Prelude.{◌==◌, Bool, true, false, ◌&&◌, List, slice_index_or}
use Rattle.board.specs.declared.turn.Asker.{Asker}
use Rattle.map_tables.specs.Hex.{same_hex}
use Rattle.map_tables.specs.OnMap.{by_tile, tile_on}
use Rattle.map_tables.specs.Tile.{tile_index_of}
use Rattle.map_tables.specs.declared.hex.Hex.{Hex}
use Rattle.map_tables.specs.declared.hex.Hex.TheVariants.{B20, F16}
use Rattle.map_tables.specs.declared.lay.Lay.{Lay}
use Rattle.map_tables.specs.declared.tiles.TileNo.TheVariants.{T57}
use Rattle.tables.specs.Roster.{index_of_private}
use Rattle.tables.specs.declared.roster.Private.{Private}
use Rattle.tables.specs.declared.roster.Private.TheVariants.{ChamplainStLawrence, DelawareHudson}

-- the company owns a private
abbrev pub owns_private : Asker → Private → Bool
owns_private asker private = slice_index_or asker.own_privates (index_of_private private) false

-- no tile lies on a hex
abbrev pub has_no_tile : List Lay → Hex → Bool
has_no_tile lays hex = by_tile true (λ lay. false) (tile_on lays hex)

-- a lay is CS's: its owner lays on B20, which has no tile
unfoldable pub is_cs_lay : List Lay → Asker → Hex → Bool
is_cs_lay lays asker hex = owns_private asker ChamplainStLawrence && (same_hex hex B20 && has_no_tile lays B20)

-- a lay is DH's: its owner lays 57 on F16
unfoldable pub is_dh_lay : Asker → Lay → Bool
is_dh_lay asker lay =
    owns_private asker DelawareHudson && (same_hex lay.hex F16 && tile_index_of lay.tile == tile_index_of T57)

-- a token is DH's: DH's lay was made in this turn, and the token is for its hex
unfoldable pub is_dh_token : Asker → Hex → Bool
is_dh_token asker hex = asker.dh_laid && same_hex hex F16
