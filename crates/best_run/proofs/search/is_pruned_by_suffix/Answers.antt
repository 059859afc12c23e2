-- The bound of the trains that are left, and what is assigned, are no more than was found.
use Rattle.std.proofs.Common.{◌≡◌, ℕ, ◌-◌, Some, length, slice_get, slice_index_or, sym, subst, ◌∙◌, arith}
use Rattle.std.proofs.lemmas.Bool.{leb-true, ltb-true}
use Rattle.std.proofs.lemmas.Option.{slice_get-get_or}
use Rattle.best_run.proofs.search.is_pruned_by_suffix.Goals as goal
use Rattle.best_run.proofs.search.is_pruned_by_suffix.Goals.{then-left-bounds, else-left-bounds}

pub returns-then-assigned-best-clause-short : goal.returns-then-assigned-best-clause-short
returns-then-assigned-best-clause-short c holds =
    let bounds = c.args.bounded.now.bounds.now in
    let left = c.train_count.result - c.args.assigned.now.next in
    let same : left ≡ length c.args.bounded.now.task.now.trains.items - c.args.assigned.now.next = omega (arith, c.train_count.ensures) in
    elim c.if-left-bounds.branch [
      | then-left-bounds w ↦ (
        slice_index_or bounds left 0,
        subst (λ (n : ℕ). slice_get bounds n ≡ Some (slice_index_or bounds left 0)) same
            (slice_get-get_or bounds left 0 w.if-left-bounds.true),
        omega (arith, leb-true _ _ holds, leb-true _ _ (sym w.value-is ∙ c.if-assigned-best.true)),
      )
      | else-left-bounds w ↦ absurd (omega (
        arith,
        ltb-true _ _ (sym w.value-is ∙ c.if-assigned-best.true),
        w.if-left-bounds.false,
      ))
    ]
