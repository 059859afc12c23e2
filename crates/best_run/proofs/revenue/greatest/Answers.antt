-- All trains are solved for in the end.
use Rattle.std.proofs.Common.{◌≡◌, None, sym, subst, arith}
use Rattle.best_run.specs.declared.memo.Found.{Found}
use Rattle.best_run.specs.Suffix.{AreBounds, IsTop}
use Rattle.best_run.proofs.Eased.{solved_all}
use Rattle.best_run.proofs.KeptStates.{granted}
use Rattle.best_run.proofs.revenue.greatest.Goals as goal

pub invariant_of-bounded : goal.invariant_of-bounded
invariant_of-bounded c =
    record { are_bounds = subst (AreBounds c.args.task.now) (sym c.deref.ensures.value) c.in_ok-bounds.ensures.true_bounds }

pub returns : goal.returns
returns c =
    let best : Found = c.assign_last.new.best in
    let found : Found = c.in_ok-found.found in
    let same : found ≡ best = (granted best found (sym c.in_ok-found.ensures)).0 in
    let none : best.move_path.refused ≡ None = (granted best found (sym c.in_ok-found.ensures)).1 in
    subst (IsTop c.args.task.now) (sym same)
    (solved_all c.args.task.now c.train_count.result _ _ best (omega arith) c.in_ok-bounds.ensures c.assign_last.ensures none)
