-- One more leg is led back over.
use Rattle.std.proofs.Common.{arith}
use Rattle.search_task.proofs.Mirrored.{back_all, back_more, back_none, read_at, leg_at}
use Rattle.search_task.proofs.task.Task.all_lead_back.Goals as goal

pub loop-index-init : goal.loop-index-init
loop-index-init c = back_none c.args.self.now c.args.spot

pub loop-index-preserved : goal.loop-index-preserved
loop-index-preserved c =
    back_more c.args.self.now c.args.spot c.loop-index.index c.index-leg.result.now
    (leg_at c.args.self.now c.args.spot c.index-from.result.now c.loop-index.index c.index-leg.result.now c.requires
    c.index-from.ensures (omega arith) c.index-leg.ensures)
    (c.leads_back.ensures c.if-not-leads_back.false) c.loop-index.invariant

pub returns : goal.returns
returns c holds =
    back_all c.args.self.now c.args.spot c.loop-index.index c.index-from.result.now.legs.items
    (read_at c.args.self.now c.args.spot c.index-from.result.now c.requires c.index-from.ensures) (omega arith)
    c.loop-index.invariant
