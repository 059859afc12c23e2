use Rattle.report.specs.Statement.{code_owned}
use Rattle.report.proofs.statement.push_privates.Goals as goal
use Rattle.tables.specs.Roster.{privates}
use Rattle.tables.proofs.OneMore.{elements_step}

pub loop-private-preserved : goal.loop-private-preserved
loop-private-preserved c =
    elements_step (λ private. code_owned c.args.view.now.events c.args.seat private) privates
    c.loop-private.private-index _ _ _ _
    c.loop-private-test.true c.loop-private.invariant c.in_ok-push_private.ensures
