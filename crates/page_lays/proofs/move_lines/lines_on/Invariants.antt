-- those of the lines so far that are on the hex
use Rattle.std.proofs.Common.{◌≡◌, filter, take}
use Rattle.page_lays.specs.MoveRows.{is_on}
use Rattle.page_lays.proofs.move_lines.lines_on.Given as goal

abbrev pub invariant-loop-line : goal.invariant-loop-line
invariant-loop-line l = l.found.items ≡ filter (is_on l.hex) (take l.line-index l.lines)
