use Rattle.std.proofs.Common.{sym}
use Rattle.std.proofs.lemmas.Int.{to_z-of_z}
use Rattle.report.proofs.Columns.{added_in_two}
use Rattle.report.proofs.statement.push_triple.Goals as goal
use mir.Syntax.{w128}

pub returns : goal.returns
returns c =
    rw (sym (to_z-of_z w128 c.args.first c.ranges.first))
    rw (sym (to_z-of_z w128 c.args.second c.ranges.second))
    rw (sym (to_z-of_z w128 c.args.third c.ranges.third))
    (added_in_two _ _ _ _ _ c.in_ok-push_pair.ensures c.in_ok-push_count.ensures)
