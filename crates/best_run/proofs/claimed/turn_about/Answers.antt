-- The step in hand is taken the other way.
use Rattle.std.proofs.Common.{ap, arith, length}
use Rattle.best_run.proofs.ReadPath.{turned_more}
use Rattle.best_run.proofs.claimed.turn_about.Goals as goal

pub loop-step-preserved : goal.loop-step-preserved
loop-step-preserved c = rw c.turned_step.ensures
    (turned_more _ c.loop-step.walk c.loop-step.step-index _
    (omega (arith, c.loop-step-test.true, ap length c.reverse.ensures.after)) c.loop-step.invariant)
