-- As many trains are solved for as the loop has passed.
use Rattle.best_run.specs.Suffix.{IsSolved}
use Rattle.best_run.proofs.revenue.assign_suffixes.Given as goal

abbrev pub invariant-loop-count : goal.invariant-loop-count
invariant-loop-count l = IsSolved l.task l.count l.bounds.items l.best
