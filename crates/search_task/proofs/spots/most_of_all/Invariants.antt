-- The trains before the next one are listed.
use Rattle.std.proofs.Common.{◌≡◌, take}
use Rattle.search_task.specs.Described.{most_of_all}
use Rattle.search_task.proofs.spots.most_of_all.Given as goal

abbrev pub invariant-loop-kind : goal.invariant-loop-kind
invariant-loop-kind l = l.most.items ≡ most_of_all (take l.kind-index l.kinds)
