-- The steps of the links before the next one have been added.
use Rattle.std.proofs.Common.{take}
use Rattle.map_tables.specs.Hex.{index_of}
use Rattle.reach.specs.Position.{links_of}
use Rattle.search_task.proofs.Laid.{LaidIn}
use Rattle.search_task.proofs.spots.add_steps.Given as goal

abbrev pub invariant-loop-link : goal.invariant-loop-link
invariant-loop-link g l = LaidIn (g.N.Network.position l.network) (index_of l.fn.hex)
    (take l.link-index (links_of (g.N.Network.position l.network) l.fn.hex)) l.segments
