-- The legs before the next one are open.
use Rattle.best_run.specs.Canonical.{AreOpenBelow, Opens}
use Rattle.best_run.proofs.canonical.open_from.Given as goal

abbrev pub invariant-loop-index : goal.invariant-loop-index
invariant-loop-index l =
    Opens l.assigned.used l.initial.shut l.shut × AreOpenBelow l.task l.assigned.used l.fn.stop l.index l.shut
