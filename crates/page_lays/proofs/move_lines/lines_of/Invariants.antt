-- the lines of the rows so far
use Rattle.std.proofs.Common.{◌≡◌, map, take}
use Rattle.page_lays.specs.MoveRows.{row_of}
use Rattle.page_lays.proofs.move_lines.lines_of.Given as goal

abbrev pub invariant-loop-row : goal.invariant-loop-row
invariant-loop-row g l = map row_of l.lines.items ≡ take l.row-index l.rows
