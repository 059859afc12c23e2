-- The steps so far are taken the other way.
use Rattle.std.proofs.Common.{◌≡◌, reverse}
use Rattle.best_run.proofs.ReadPath.{turned_before}
use Rattle.best_run.proofs.claimed.turn_about.Given as goal

abbrev pub invariant-loop-step : goal.invariant-loop-step
invariant-loop-step l = l.walk ≡ turned_before l.step-index (reverse l.fn.walk)
