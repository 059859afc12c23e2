-- States that have been explored, and are kept: another state from which no more can be earned need
-- not be explored.
use Rattle.std.specs.Prelude.{◌≡◌, ℕ, ◌≤◌, Bool, false, ◌⊎◌, Option, Some, None, Result, Ok, Err, List, [], slice_get}
use Rattle.std.specs.declared.alloc.AllocError.{AllocError}
use Rattle.best_run.specs.declared.memo.Found.{Found}
use Rattle.best_run.specs.declared.search_state.SearchState.{SearchState}
use Rattle.best_run.specs.declared.state.Assigned.{Assigned}
use Rattle.best_run.specs.declared.state.PartialRun.{PartialRun}
use Rattle.search_task.specs.Marks.{AreBarred, Freer}
use Rattle.best_run.specs.MovePath.{marks_in}
use Rattle.legal_runs.specs.Legal.{map_borders}

-- The same trains are left in two states, with the same kind of train before them. The first has no
-- less assigned, no lower cap and no border used that the second does not have.
pub record Dominates (first second : Assigned) : Type 0 where
  pub next : first.next ≡ second.next
  pub kind : first.kind ≡ second.kind
  pub cap : second.cap ≤ first.cap
  pub total : second.total ≤ first.total
  pub used : Freer second.used first.used

-- a run may turn back as another one may, or that has turned back before
abbrev pub TurnsAs : PartialRun → PartialRun → Type 0
TurnsAs first second = second.turned ≡ false → (first.home ≡ second.home) × (first.first ≡ second.first)

-- Two runs are at one stop. The first has visited no stop that the second has not, and earns no
-- less. It may visit as many more, or more than there are borders.
pub record DominatesRun (first second : PartialRun) : Type 0 where
  pub head : first.head ≡ second.head
  pub turned : first.turned ≡ second.turned
  pub most : first.most ≡ second.most
  pub back : TurnsAs first second
  pub left : (second.left ≤ first.left) ⊎ (map_borders ≤ first.left)
  pub value : second.value ≤ first.value
  pub visited : Freer second.visited first.visited

-- the first covers the second, if any has begun, and no train ran before
abbrev pub DominatesAny : ℕ → Option PartialRun → Option PartialRun → Type 0
DominatesAny kind None None = Unit {0}
DominatesAny kind None (Some second) = ⊥
DominatesAny kind (Some first) None = ⊥
DominatesAny kind (Some first) (Some second) = (kind ≡ 0) × DominatesRun first second

pub record DominatesStage (first second : SearchState) : Type 0 where
  pub assigned : Dominates first.assigned second.assigned
  pub run : DominatesAny first.assigned.kind first.run second.run

-- to a run all stops that are not in reach count as visited
pub record IsBarred (reach : List Bool) (run barred : PartialRun) : Type 0 where
  pub same : barred ≡ record run { visited = barred.visited }
  pub marks : AreBarred run.visited reach barred.visited

-- a state that is kept covers another
pub record IsDominated (found : Found) (search_state : SearchState) : Type 0 where
  pub place : ℕ
  pub entry : SearchState
  pub there : slice_get found.memo.items place ≡ Some entry
  pub dominates : DominatesStage entry search_state

-- a state is at some place
abbrev pub IsHeld : Found → SearchState → Type 0
IsHeld found entry = (place : ℕ) × (slice_get found.memo.items place ≡ Some entry)

-- a state is kept, if at all; the others that are kept are among those that were, and an earlier
-- failed allocation stays
pub record IsKept (search_state : SearchState) (old new : Found) : Type 0 where
  pub amount : new.amount ≡ old.amount
  pub marks : marks_in new.move_path ≡ marks_in old.move_path
  pub refused : new.move_path.refused ≡ None → old.move_path.refused ≡ None
  pub only : (place : ℕ) (entry : SearchState) → slice_get new.memo.items place ≡ Some entry
      → IsHeld old entry ⊎ (search_state ≡ entry)

-- nothing is found yet, no move is recorded, and no state is kept
pub record IsNothing (found : Found) : Type 0 where
  pub amount : found.amount ≡ 0
  pub marks : marks_in found.move_path ≡ []
  pub none : found.memo.items ≡ []

-- what is found, or the failed allocation
abbrev pub found_or : Found → Option AllocError → Result Found AllocError
found_or found None = Ok found
found_or found (Some error) = Err error

abbrev pub unless_refused : Found → Result Found AllocError
unless_refused found = found_or found found.move_path.refused
