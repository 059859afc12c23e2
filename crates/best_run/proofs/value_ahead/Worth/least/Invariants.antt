-- The least so far is no less than what is earned by some level.
use Rattle.std.proofs.Common.{◌≤◌}
use Rattle.best_run.specs.Ahead.{IsLeast}
use Rattle.best_run.proofs.value_ahead.Worth.least.Given as goal

abbrev pub invariant-loop-place : goal.invariant-loop-place
invariant-loop-place l = IsLeast l.self l.left l.on l.back l.least × (l.least ≤ 119200)
