-- The few are copied, and the last one is after them.
use Rattle.std.proofs.Common.{refl, arith}
use Rattle.search_task.proofs.Copied.{copy_all, copy_next}
use Rattle.search_task.proofs.steps.Steps.of.Goals as goal

pub loop-place-preserved : goal.loop-place-preserved
loop-place-preserved c =
    copy_next c.args.first.now c.loop-place.few c.loop-place.place c.args.last _ c.loop-place-test.true
    (omega (arith, c.loop-place-test.true, c.if-first-lt-FEW.true)) c.loop-place.invariant

pub returns-then-first-lt-FEW : goal.returns-then-first-lt-FEW
returns-then-first-lt-FEW c =
    copy_all c.args.first.now c.loop-place.few c.new-others.result.items c.loop-place.place _ c.args.last
    c.loop-place-test.false c.loop-place.auto.place-end
    (omega (arith, c.loop-place.auto.place-end, c.if-first-lt-FEW.true)) refl c.new-others.ensures.items
    c.loop-place.invariant
