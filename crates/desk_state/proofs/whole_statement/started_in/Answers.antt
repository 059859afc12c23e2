use Rattle.std.proofs.Common.{[]}
use Rattle.tables.proofs.OneMore.{elements_step}
use Rattle.desk_state.specs.Statement.{started_one}
use Rattle.desk_state.proofs.whole_statement.started_in.Goals as goal

pub loop-company-preserved : goal.loop-company-preserved
loop-company-preserved c =
    elements_step (started_one c.args.history.now.events) c.args.order.now c.loop-company.company-index _ [] _ _
    c.loop-company-test.true c.loop-company.invariant c.in_ok-push_started.ensures
