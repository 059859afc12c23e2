-- the rows of the lays so far
use Rattle.std.proofs.Common.{◌≡◌, ◌++◌, map, take}
use Rattle.page_lays.specs.MoveRows.{lay_row}
use Rattle.page_lays.proofs.move_rows.push_lays.Given as goal

abbrev pub invariant-loop-lay : goal.invariant-loop-lay
invariant-loop-lay l = l.rows.items ≡ l.fn.rows.items ++ map lay_row (take l.lay-index l.lays)
