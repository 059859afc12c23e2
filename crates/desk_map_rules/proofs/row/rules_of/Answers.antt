use Rattle.std.proofs.Common.{[]}
use Rattle.desk_map_rules.specs.Broken.{row_rule}
use Rattle.desk_map_rules.proofs.row.rules_of.Goals as goal
use Rattle.tables.proofs.OneMore.{elements_step}

pub loop-row-preserved : goal.loop-row-preserved
loop-row-preserved c =
    elements_step row_rule c.args.rows.now c.loop-row.row-index _ [] _ _ c.loop-row-test.true c.loop-row.invariant
    c.in_ok-push_row.ensures
