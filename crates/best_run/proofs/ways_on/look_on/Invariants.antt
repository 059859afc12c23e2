-- The ways by the legs before the next one are found.
use Rattle.best_run.specs.WaysOn.{AreFound}
use Rattle.best_run.proofs.ways_on.look_on.Given as goal

abbrev pub invariant-loop-index : goal.invariant-loop-index
invariant-loop-index l = AreFound l.task l.assigned l.run l.best l.home.ahead l.index l.ways
