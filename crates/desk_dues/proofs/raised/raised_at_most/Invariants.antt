-- the sum of the companies so far
use Rattle.std.proofs.Common.{◌≡◌, ◌*◌, ◌≤◌, sum_by, take}
use Rattle.desk_dues.specs.Raised.{most_of_company}
use Rattle.tables.specs.Roster.{companies}
use Rattle.desk_dues.proofs.raised.raised_at_most.Given as goal

abbrev pub invariant-loop-company : goal.invariant-loop-company
invariant-loop-company l = record {
  value : l.sum ≡ sum_by (most_of_company l.history l.by) (take l.company-index companies);
  small : l.sum ≤ 3500 * l.company-index;
}
