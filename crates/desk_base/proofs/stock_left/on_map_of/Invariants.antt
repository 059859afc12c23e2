use Rattle.std.proofs.Common.{◌≡◌, take}
use Rattle.std.specs.List.{count_by}
use Rattle.board.specs.LayRules.{is_tile}
use Rattle.map_tables.specs.OnMap.{tile_on}
use Rattle.desk_base.proofs.stock_left.on_map_of.Given as goal

-- the hexes so far on which the tile lies
abbrev pub invariant-loop-hex : goal.invariant-loop-hex
invariant-loop-hex l =
    l.count ≡ count_by (λ hex. is_tile l.number (tile_on l.lays hex)) (take l.hex-index l.hex-items)
