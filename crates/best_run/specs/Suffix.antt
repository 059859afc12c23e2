-- What the last trains earn by themselves, if no border is used: none of them earns more after
-- other trains. Of equal trains none earns more than the one before.
use Rattle.std.specs.Prelude.{◌≡◌, ℕ, ◌+◌, ◌-◌, ◌*◌, ◌<◌, ◌≤◌, false, Some, None, List, length, get_or, slice_get}
use Rattle.std.specs.Prelude.{replicate}
use Rattle.search_task.specs.declared.task.Task.{Task}
use Rattle.best_run.specs.declared.memo.Found.{Found}
use Rattle.best_run.specs.declared.state.Assigned.{Assigned}
use Rattle.best_run.specs.MovePath.{marks_in}
use Rattle.best_run.specs.Moves.{AreInMemo, Completes, Earns, Move, between, start, total_after}
use Rattle.legal_runs.specs.Legal.{map_borders}

-- the trains before one do not run, and nothing is used
abbrev pub nothing_before : ℕ → Assigned
nothing_before next = record { next = next; total = 0; kind = 0; cap = 0; used = replicate map_borders false }

-- the trains from one on earn at most this much
abbrev pub EarnAtMost : Task → ℕ → ℕ → Type 0
EarnAtMost task next most =
    (moves : List Move) → Completes task (between (nothing_before next)) moves
    → total_after task (between (nothing_before next)) moves ≤ most

-- for no train, for the last one, for the last two, ..: what they earn at most
abbrev pub AreBounds : Task → List ℕ → Type 0
AreBounds task bounds =
    (count bound next : ℕ) → slice_get bounds count ≡ Some bound → next + count ≡ length task.trains.items
    → EarnAtMost task next bound

-- with what is assigned, the trains that are left can earn no more than has been found
abbrev pub ArePrunedBySuffix : Task → List ℕ → Assigned → ℕ → Type 0
ArePrunedBySuffix task bounds assigned best =
    (bound : ℕ) × (slice_get bounds (length task.trains.items - assigned.next) ≡ Some bound)
    × (assigned.total + bound ≤ best)

-- this many trains from one on may visit this many stops
abbrev pub AreEqual : Task → ℕ → ℕ → ℕ → Type 0
AreEqual task next count most = (train : ℕ) → train < count → get_or task.trains.items (next + train) 0 ≡ most

-- Some trains from one on are of the kind that ran last, and each of them earns no more than the
-- cap. With what is assigned, they and the others that are left can earn no more than has been
-- found.
pub record ArePrunedByCap (task : Task) (next kind cap total best : ℕ) : Type 0 where
  pub some : 0 < kind
  pub equal : ℕ
  pub bound : ℕ
  pub are_equal : AreEqual task next equal kind
  pub rest : EarnAtMost task (next + equal) bound
  pub short : total + (equal * cap + bound) ≤ best

-- No train, the last one, the last two, .., this many in all, are solved for by themselves. What is
-- found bounds what they earn, and the path gives how the last ones earn it.
pub record IsSolved (task : Task) (count : ℕ) (bounds : List ℕ) (found : Found) : Type 0 where
  pub all : length bounds ≡ count
  pub true_bounds : AreBounds task bounds
  pub known : AreInMemo task found
  pub earns : found.move_path.refused ≡ None → Earns task
      (between (nothing_before (length task.trains.items - count))) (marks_in found.move_path) found.amount

-- what is found is the most that any moves from the start earn, and the path gives how
pub record IsTop (task : Task) (found : Found) : Type 0 where
  pub earns : Earns task start (marks_in found.move_path) found.amount
  pub most : (moves : List Move) → Completes task start moves → total_after task start moves ≤ found.amount
