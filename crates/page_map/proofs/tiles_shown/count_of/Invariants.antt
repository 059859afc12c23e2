use Rattle.std.proofs.Common.{◌≡◌, take}
use Rattle.std.specs.List.{count_by}
use Rattle.board.specs.LayRules.{is_tile}
use Rattle.page_map.proofs.tiles_shown.count_of.Given as goal

-- those of the number so far
abbrev pub invariant-loop-tile : goal.invariant-loop-tile
invariant-loop-tile l = l.count ≡ count_by (is_tile l.number) (take l.tile-index l.shown)
