-- Legs lead back over those from the spots before the next one.
use Rattle.search_task.proofs.Mirrored.{AllBackBelow}
use Rattle.search_task.proofs.task.Task.is_mirrored.Given as goal

abbrev pub invariant-loop-spot : goal.invariant-loop-spot
invariant-loop-spot l = AllBackBelow l.self l.spot
