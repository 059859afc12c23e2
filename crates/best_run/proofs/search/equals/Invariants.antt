-- The trains that the loop has passed may all visit this many stops.
use Rattle.std.proofs.Common.{◌+◌, ◌≤◌, length}
use Rattle.best_run.specs.Suffix.{AreEqual}
use Rattle.best_run.proofs.search.equals.Given as goal

abbrev pub invariant-loop-count : goal.invariant-loop-count
invariant-loop-count l = AreEqual l.task l.next l.count l.most × (l.next + l.count ≤ length l.task.trains.items)
