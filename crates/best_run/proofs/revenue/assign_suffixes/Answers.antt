-- One more train is solved for in each round, and then passes.
use Rattle.std.proofs.Common.{sym, subst, arith}
use Rattle.best_run.specs.Suffix.{AreBounds}
use Rattle.best_run.proofs.Eased.{solved_more, solved_none}
use Rattle.best_run.proofs.KeptStates.{empty_memo}
use Rattle.best_run.proofs.revenue.assign_suffixes.Goals as goal

pub loop-count-init : goal.loop-count-init
loop-count-init c =
    rw c.in_ok-bounds.ensures.items
    (solved_none c.args.task.now c.args.best.now c.requires.nothing.amount c.requires.nothing.marks
    (empty_memo c.args.task.now c.args.best.now c.requires.nothing))

pub invariant_of-bounded : goal.invariant_of-bounded
invariant_of-bounded c =
    record { are_bounds = subst (AreBounds c.args.task.now) (sym c.deref.ensures.value) c.loop-count.invariant.true_bounds }

pub loop-count-preserved : goal.loop-count-preserved
loop-count-preserved c =
    rw c.in_ok-push.ensures.items
    (solved_more c.args.task.now c.loop-count.count c.loop-count.bounds.items c.loop-count.best c.assign_last.new.best
    c.write.new.self (omega arith) c.loop-count.invariant c.assign_last.ensures c.write.ensures)
