use Rattle.report.specs.Statement.{codes_of_trains}
use Rattle.report.proofs.statement.push_trains.Goals as goal
use Rattle.tables.specs.Train.{kinds}
use Rattle.tables.proofs.OneMore.{elements_step}

pub loop-kind-preserved : goal.loop-kind-preserved
loop-kind-preserved c =
    elements_step (λ kind. codes_of_trains c.args.view.now.events c.args.company kind) kinds
    c.loop-kind.kind-index _ _ _ _
    c.loop-kind-test.true c.loop-kind.invariant c.in_ok-push_trains_of_kind.ensures
