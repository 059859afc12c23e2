use Rattle.std.proofs.Common.{◌∙◌}
use Rattle.certs.proofs.Presidents.{one_more}
use Rattle.certs.proofs.president.with_most.Goals as goal

pub loop-preserved : goal.loop-preserved
loop-preserved g c =
    one_more (g.T.SharesOfSeats.shares c.args.shares.now c.args.company) c.args.seats c.loop.counter c.loop.best
    c.loop.seat c.left-seat.result c.better-best.result c.loop-test.true c.left-seat.ensures c.better-best.ensures
    ∙ c.loop.invariant
