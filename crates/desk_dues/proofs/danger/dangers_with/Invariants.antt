-- the dangers to the companies so far
use Rattle.std.proofs.Common.{◌≡◌, ◌≤◌, length, take, flat_map}
use Rattle.desk_dues.specs.Dangers.{danger_to}
use Rattle.tables.specs.Roster.{companies}
use Rattle.desk_dues.proofs.danger.dangers_with.Given as goal

abbrev pub invariant-loop-company : goal.invariant-loop-company
invariant-loop-company l = record {
  items : l.dangers.items ≡ flat_map (danger_to l.history l.fall) (take l.company-index companies);
  short : length l.dangers.items ≤ l.company-index;
}
