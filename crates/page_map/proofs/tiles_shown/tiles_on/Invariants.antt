use Rattle.std.proofs.Common.{◌≡◌, ◌≤◌, length, map, take}
use Rattle.map_tables.specs.OnMap.{tile_on}
use Rattle.page_map.proofs.tiles_shown.tiles_on.Given as goal

-- the tiles on the hexes so far
abbrev pub invariant-loop-hex : goal.invariant-loop-hex
invariant-loop-hex l =
    (l.shown.items ≡ map (tile_on l.lays) (take l.hex-index l.hexes)) × (length l.shown.items ≡ l.hex-index)
    × (length l.hexes ≤ 93)
