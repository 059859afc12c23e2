-- Nothing is used at first.
use Rattle.std.proofs.Common.{◌≡◌, ℕ, ◌-◌, Bool, List, length, subst, arith}
use Rattle.best_run.specs.Moves.{Explores, between}
use Rattle.best_run.specs.Suffix.{nothing_before}
use Rattle.search_task.proofs.Marked.{unused_none}
use Rattle.best_run.proofs.revenue.assign_last.Goals as goal

pub assign_next-requires-clause-room : goal.assign_next-requires-clause-room
assign_next-requires-clause-room c = rw c.none.ensures (omega (arith, unused_none 279))

pub returns : goal.returns
returns c =
    let same : c.train_count.result - c.args.count ≡ length c.args.bounded.now.task.now.trains.items - c.args.count = omega arith in
    subst (λ (n : ℕ). Explores c.args.bounded.now.task.now (between (nothing_before n)) c.args.best.now c.assign_next.new.best) same
    (subst (λ (used : List Bool). Explores c.args.bounded.now.task.now
    (between (record { next = c.train_count.result - c.args.count; total = 0; kind = 0; cap = 0; used = used }))
    c.args.best.now c.assign_next.new.best) c.none.ensures c.assign_next.ensures)
