use Rattle.std.proofs.Common.{◌≡◌, ◌≤◌, ◌-◌, ◌++◌, length, drop}
use Rattle.std.specs.List.{filter_map}
use Rattle.page.specs.Revenue.{revenue_row, revenue_rows}
use Rattle.report.specs.Report.{rounds_in}
use Rattle.page.proofs.revenue_part.revenue_rows.Given as goal

-- the rows so far and those of the rounds to come make up all rows
pub record RowsSoFar (l : goal.Live-loop-begun) : Type 0 where
  pub within : l.begun ≤ length l.events
  pub rows : l.rows.items ++ filter_map revenue_row (rounds_in (drop l.begun l.events)) ≡ revenue_rows l.events

abbrev pub invariant-loop-begun : goal.invariant-loop-begun
invariant-loop-begun l = RowsSoFar l

abbrev pub decreases-loop-begun : goal.decreases-loop-begun
decreases-loop-begun l = length l.events - l.begun
