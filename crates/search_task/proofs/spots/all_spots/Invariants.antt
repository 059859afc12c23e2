-- The stops of the hexes before the next one are at their numbers.
use Rattle.std.proofs.Common.{◌*◌}
use Rattle.search_task.specs.Described.{AreNumberedBefore}
use Rattle.search_task.proofs.spots.all_spots.Given as goal

abbrev pub invariant-loop-hex : goal.invariant-loop-hex
invariant-loop-hex g l = AreNumberedBefore (g.N.Network.position l.network) l.company (8 * l.hex) l.nodes.items
