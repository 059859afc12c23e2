-- With each call that goes on from a spot, one more spot lies ahead.
use Rattle.std.proofs.Common.{◌≡◌, ◌+◌, ◌*◌, false}
use Rattle.best_run.specs.Ahead.{WidensBelow}
use Rattle.best_run.specs.EndStops.{HasWorth}
use Rattle.best_run.proofs.lookahead.+look.Given as goal
use Rattle.legal_runs.specs.Law.{unused}

abbrev pub decreases-look_at : goal.decreases-look_at
decreases-look_at l = 2 * unused l.outlook.now.ahead

abbrev pub decreases-look_from : goal.decreases-look_from
decreases-look_from l = 2 * unused l.outlook.now.ahead + 1

abbrev pub invariant-look_from-loop-index : goal.invariant-look_from-loop-index
invariant-look_from-loop-index l =
    WidensBelow l.task l.assigned l.run l.fn.spot l.index l.initial.outlook.ahead l.outlook.ahead
    × (HasWorth l.task l.assigned l.run l.outlook.ahead l.outlook.worth
    × (l.leads ≡ false → l.outlook ≡ l.initial.outlook))
