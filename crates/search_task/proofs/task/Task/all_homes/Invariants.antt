-- The homes in the hexes before the next one are listed.
use Rattle.std.proofs.Common.{◌*◌}
use Rattle.search_task.specs.Legs.{AreHomes}
use Rattle.search_task.proofs.task.Task.all_homes.Given as goal

abbrev pub invariant-loop-hex : goal.invariant-loop-hex
invariant-loop-hex l = AreHomes l.self 0 (8 * l.hex) l.homes.items
