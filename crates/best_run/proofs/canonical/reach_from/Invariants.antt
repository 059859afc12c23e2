-- The legs before the next one are gone over.
use Rattle.best_run.specs.Ahead.{IsWorth, WidensBelow}
use Rattle.best_run.specs.Canonical.{anywhere}
use Rattle.best_run.proofs.canonical.reach_from.Given as goal

abbrev pub invariant-loop-index : goal.invariant-loop-index
invariant-loop-index l =
    WidensBelow l.task l.assigned anywhere l.fn.stop l.index l.initial.reach.ahead l.reach.ahead
    × IsWorth l.task.spots.items l.reach.ahead l.reach.worth
