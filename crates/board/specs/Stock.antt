-- The stock: of each tile those of the manifest that do not lie on the map. A lay by the rules
-- takes one from it and returns the tile that it replaces, so no more tiles of a number ever lie
-- than there are.
use Rattle.std.specs.Prelude.{◌≡◌, ◌≤◌, List, [], ◌∷◌, ◌++◌, None}
use Rattle.board_state.specs.MapState.{MapState}
use Rattle.board.specs.LayRules.{map_rules, on_map_of}
use Rattle.board.specs.declared.turn.Asker.{Asker}
use Rattle.map_tables.specs.Tile.{entry_of}
use Rattle.map_tables.specs.declared.lay.Lay.{Lay}
use Rattle.map_tables.specs.declared.tiles.TileNo.{TileNo}
use Rattle.tables.specs.Rules.{first_broken}

-- no more tiles of a number lie than there are
abbrev pub IsStocked : List Lay → Type 0
IsStocked lays = (tile : TileNo) → on_map_of lays tile ≤ (entry_of tile).count

-- after a lay by the rules no more tiles of a number lie than there are, if that was so before
abbrev pub LayKeepsStock : Type 0
LayKeepsStock =
    (laid : MapState) (asker : Asker) (lay : Lay) → IsStocked laid.lays
    → first_broken (map_rules laid asker lay) ≡ None → IsStocked (laid.lays ++ lay ∷ [])
