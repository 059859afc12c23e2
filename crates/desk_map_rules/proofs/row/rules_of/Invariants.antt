-- the rules of the rows so far that are broken
use Rattle.std.proofs.Common.{◌≡◌, take}
use Rattle.std.specs.List.{flat_map}
use Rattle.desk_map_rules.specs.Broken.{row_rule}
use Rattle.desk_map_rules.proofs.row.rules_of.Given as goal

abbrev pub invariant-loop-row : goal.invariant-loop-row
invariant-loop-row l = l.rules.items ≡ flat_map row_rule (take l.row-index l.rows)
