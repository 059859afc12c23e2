-- The legs before the next one cross it.
use Rattle.best_run.specs.EndStops.{CrossItBelow}
use Rattle.best_run.proofs.end_stops.cross_it.Given as goal

abbrev pub invariant-loop-index : goal.invariant-loop-index
invariant-loop-index l = CrossItBelow l.task l.assigned.used l.fn.spot l.border l.index
