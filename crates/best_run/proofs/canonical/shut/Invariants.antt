-- The legs from the listed stops before the next one are open.
use Rattle.best_run.specs.Canonical.{IsShutBelow}
use Rattle.best_run.proofs.canonical.shut.Given as goal

abbrev pub invariant-loop-place : goal.invariant-loop-place
invariant-loop-place l = IsShutBelow l.task l.assigned.used l.reach l.place l.shut
