-- Legs lead back over the legs before the next one.
use Rattle.search_task.proofs.Mirrored.{LeadBackBelow}
use Rattle.search_task.proofs.task.Task.all_lead_back.Given as goal

abbrev pub invariant-loop-index : goal.invariant-loop-index
invariant-loop-index l = LeadBackBelow l.self l.spot l.index
