use Rattle.page_routes.proofs.RunSteps.{adds_then}
use Rattle.totals.proofs.InOrder.{lent_at}
use Rattle.std.proofs.Common.{ap}
use Rattle.totals.specs.LookBack.{Game}
use Rattle.page_routes.proofs.routes.add_ran.Goals as goal

pub returns-clause-added : goal.returns-clause-added
returns-clause-added c =
    adds_then c.args.walk.now.events.now c.go.new.self.events.now c.view-view.result.events c.go.new.self.passed
    c.args.line _ _ _
    c.go.ensures.events c.go.ensures.passed (ap (λ (game : Game). game.events) c.view-view.ensures)
    (lent_at _ c.args.line.ruled c.get-event.result c.get-event.ensures.lookup) c.in_ok-add_at.ensures
