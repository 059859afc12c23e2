-- What is in reach of the tokens at listed stops before the next one is added.
use Rattle.std.specs.Prelude.{◌≤◌}
use Rattle.best_run.specs.Canonical.{AreCappedBelow}
use Rattle.best_run.proofs.canonical.reach.Given as goal

abbrev pub invariant-loop-place : goal.invariant-loop-place
invariant-loop-place l = AreCappedBelow l.task l.assigned.used l.place l.reach × (l.reach.left ≤ 744)
