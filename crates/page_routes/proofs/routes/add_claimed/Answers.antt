use Rattle.page_routes.proofs.Steps.{shown_step}
use Rattle.page_routes.specs.ShownRuns.{claimed_by}
use Rattle.page_routes.proofs.routes.add_claimed.Goals as goal

pub loop-claimed-preserved : goal.loop-claimed-preserved
loop-claimed-preserved c =
    shown_step (claimed_by c.args.company) c.args.runs.now c.loop-claimed.claimed-index c.claimed-item.result _ _ _
    c.loop-claimed-test.true c.claimed-item.is c.loop-claimed.invariant c.in_ok-add_route.ensures
