-- One more spot is looked at.
use Rattle.std.proofs.Common.{arith}
use Rattle.search_task.proofs.Mirrored.{spots_all, spots_more, spots_none}
use Rattle.search_task.proofs.task.Task.is_mirrored.Goals as goal

pub loop-spot-init : goal.loop-spot-init
loop-spot-init c = spots_none c.args.self.now

pub loop-spot-preserved : goal.loop-spot-preserved
loop-spot-preserved c =
    spots_more c.args.self.now c.loop-spot.spot (c.all_lead_back.ensures c.if-not-all_lead_back.false)
    c.loop-spot.invariant

pub returns : goal.returns
returns c holds = spots_all c.args.self.now c.loop-spot.spot (omega arith) c.loop-spot.invariant
