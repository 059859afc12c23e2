-- The segments of the steps in the hexes before the next one are there.
use Rattle.search_task.specs.Described.{LaidBefore}
use Rattle.search_task.proofs.spots.all_segments.Given as goal

abbrev pub invariant-loop-index : goal.invariant-loop-index
invariant-loop-index g l = LaidBefore (g.N.Network.position l.network) l.index l.segments
