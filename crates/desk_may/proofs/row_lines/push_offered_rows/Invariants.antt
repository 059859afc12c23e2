-- the lines of the rows so far
use Rattle.std.proofs.Common.{◌≡◌, ◌++◌, take}
use Rattle.desk_may.specs.RowLines.{offered_lines}
use Rattle.desk_may.proofs.row_lines.push_offered_rows.Given as goal

abbrev pub invariant-loop-row : goal.invariant-loop-row
invariant-loop-row l = l.out.items ≡ l.fn.out.items ++ offered_lines l.presidents l.sheets (take l.row-index l.rows)
