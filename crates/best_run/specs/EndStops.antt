-- Stops ahead of a run at which it ends, though others may pass them. All legs from there that
-- cross no used border cross one and the same border. So does the leg by which the run comes, since
-- a leg leads back over it. Such a stop counts as one at which runs end.
use Rattle.std.specs.Prelude.{◌≡◌, ℕ, ◌<◌, ◌≤◌, Bool, true, false, ◌⊎◌, Some, List, length, slice_get}
use Rattle.reach.specs.Position.{IsAmong}
use Rattle.search_task.specs.declared.task.Node.{Node}
use Rattle.search_task.specs.declared.task.Task.{Task}
use Rattle.search_task.specs.declared.task.Leg.{Leg}
use Rattle.best_run.specs.declared.state.Assigned.{Assigned}
use Rattle.best_run.specs.declared.state.PartialRun.{PartialRun}
use Rattle.best_run.specs.declared.value_ahead.Worth.{Worth}
use Rattle.best_run.specs.Ahead.{IsWorth, most_ahead}
use Rattle.search_task.specs.Spots.{ends_in, node_at, value_in}
use Rattle.search_task.specs.Crossed.{misses}
use Rattle.search_task.specs.Legs.{IsMirrored, legs_at}

-- all legs from a stop that cross no used border cross a border
abbrev pub CrossIt : Task → List Bool → ℕ → ℕ → Type 0
CrossIt task used spot border =
    (place : ℕ) (leg : Leg) → slice_get (legs_at task spot) place ≡ Some leg
    → misses used leg.segment.borders.items ≡ true → IsAmong border leg.segment.borders.items

-- each leg from a stop before a place that crosses no used border crosses a border
abbrev pub CrossItBelow : Task → List Bool → ℕ → ℕ → ℕ → Type 0
CrossItBelow task used spot border most =
    (place : ℕ) (leg : Leg) → place < most → slice_get (legs_at task spot) place ≡ Some leg
    → misses used leg.segment.borders.items ≡ true → IsAmong border leg.segment.borders.items

-- a run that reaches a stop goes on from there no more
abbrev pub IsLast : Task → List Bool → ℕ → Type 0
IsLast task used spot = IsMirrored task × ((border : ℕ) × CrossIt task used spot border)

-- a run ends at a stop: none passes it, or it is last; for a run that has no stops only the former
-- counts
abbrev pub EndsThere : Task → Assigned → PartialRun → ℕ → Type 0
EndsThere task assigned run spot =
    (ends_in (node_at task spot) ≡ true) ⊎ ((0 < run.most) × IsLast task assigned.used spot)

-- the stops count as in a list: each is worth as much, and if runs end there by the list, this one
-- does
pub record Counts (task : Task) (assigned : Assigned) (run : PartialRun) (nodes : List Node) : Type 0 where
  pub all : length nodes ≡ length task.spots.items
  pub value : (spot : ℕ) → value_in (slice_get nodes spot) ≡ value_in (node_at task spot)
  pub ends : (spot : ℕ) → ends_in (slice_get nodes spot) ≡ true → EndsThere task assigned run spot
  pub plain : run.most ≡ 0 → nodes ≡ task.spots.items

-- it is known what the stops ahead are worth, as they count
pub record HasWorth (task : Task) (assigned : Assigned) (run : PartialRun) (ahead : List Bool) (worth : Worth) : Type
    0 where
  pub nodes : List Node
  pub counts : Counts task assigned run nodes
  pub known : IsWorth nodes ahead worth

-- it is known what the stops ahead are worth, and this stop counts as one that may be passed
pub record CountsAsPassed (task : Task) (assigned : Assigned) (run : PartialRun) (spot : ℕ) (ahead : List Bool)
    (worth : Worth) : Type 0 where
  pub has : HasWorth task assigned run ahead worth
  pub passed : ends_in (slice_get has.nodes spot) ≡ false

-- a run may earn no more ahead, by some level, as the stops count
pub record EarnsAhead (task : Task) (assigned : Assigned) (run : PartialRun) (ahead : List Bool)
    (most : ℕ) : Type 0 where
  pub nodes : List Node
  pub counts : Counts task assigned run nodes
  pub level : ℕ
  pub low : most_ahead level task nodes run ahead ≤ most
