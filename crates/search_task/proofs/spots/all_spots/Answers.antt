-- At first the sides are there.
use Rattle.std.proofs.Common.{refl, arith}
use Rattle.search_task.proofs.Laid.{numbered_all, numbered_none, numbered_on}
use Rattle.search_task.proofs.spots.all_spots.Goals as goal

pub loop-hex-init : goal.loop-hex-init
loop-hex-init g c = numbered_none (g.N.Network.position c.args.network.now) c.args.company _ c.side_node.result
    c.side_node.ensures.node (rw (c.in_ok-resize.ensures.items, c.new-nodes.ensures.items, c.new-nodes.ensures.len)
    refl)

pub lay_stop-requires-clause-before : goal.lay_stop-requires-clause-before
lay_stop-requires-clause-before g c = numbered_on (g.N.Network.position c.args.network.now) c.args.company
    c.loop-hex.hex _ c.loop-hex.invariant

pub returns : goal.returns
returns g c =
    numbered_all (g.N.Network.position c.args.network.now) c.args.company c.loop-hex.hex _
    (omega (arith, c.loop-hex-test.false)) c.loop-hex.invariant
