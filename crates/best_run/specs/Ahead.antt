-- What may lie ahead of a run that has begun: the stops that it may still reach, if it may take
-- each leg that it may take now. Given a level, a number of dollars, each stop to come is worth at
-- most the level and what it is worth beyond. So the run earns at most the level for each stop that
-- is left, and what the stops ahead are worth beyond it. Of the stops at which runs end, red or
-- full, it may reach one from where it is and one from where it began. So only those count that are
-- worth most.
use Rattle.std.specs.Prelude.{◌≡◌, ℕ, ◌+◌, ◌-◌, ◌*◌, ◌<◌, ◌≤◌, max, Bool, true, false, not, ◌&&◌, ◌⊎◌, Some, List, []}
use Rattle.std.specs.Prelude.{◌∷◌, get_or, slice_get}
use Rattle.search_task.specs.declared.task.Node.{Node}
use Rattle.search_task.specs.declared.task.Segment.{Segment}
use Rattle.search_task.specs.declared.task.Task.{Task}
use Rattle.search_task.specs.declared.task.Leg.{Leg}
use Rattle.best_run.specs.declared.state.Assigned.{Assigned}
use Rattle.best_run.specs.declared.state.PartialRun.{PartialRun}
use Rattle.best_run.specs.declared.value_ahead.Worth.{Worth}
use Rattle.search_task.specs.Legs.{legs_at}
use Rattle.best_run.specs.Moves.{LeadsToAtMost, can_take, partial}
use Rattle.search_task.specs.Spots.{ends_in, node_at}
use Rattle.legal_runs.specs.Law.{unused}

-- a stop lies ahead, by its number
abbrev pub LiesAhead : List Bool → ℕ → Type 0
LiesAhead ahead spot = get_or ahead spot false ≡ true

-- each leg that a run may take from a stop, if it may pass the stop, leads to one that lies ahead
abbrev pub IsGoneOver : Task → Assigned → PartialRun → List Bool → ℕ → Type 0
IsGoneOver task assigned run ahead spot =
    ends_in (node_at task spot) ≡ false → (place : ℕ) (leg : Leg) → slice_get (legs_at task spot) place ≡ Some leg
    → can_take task run assigned.used leg.segment ≡ true → LiesAhead ahead leg.segment.to

-- each leg that a run may take from a stop leads to one that lies ahead, if the run may pass the
-- stop and the leg's first segment is not before a place
abbrev pub IsGoneOverFrom : Task → Assigned → PartialRun → ℕ → List Bool → ℕ → Type 0
IsGoneOverFrom task assigned run least ahead spot =
    ends_in (node_at task spot) ≡ false → (place : ℕ) (leg : Leg) → slice_get (legs_at task spot) place ≡ Some leg
    → least ≤ leg.first → can_take task run assigned.used leg.segment ≡ true → LiesAhead ahead leg.segment.to

-- more stops lie ahead, and each new one is gone over
pub record Widens (task : Task) (assigned : Assigned) (run : PartialRun) (old new : List Bool) : Type 0 where
  pub kept : (spot : ℕ) → LiesAhead old spot → LiesAhead new spot
  pub over : (spot : ℕ) → LiesAhead new spot → LiesAhead old spot ⊎ IsGoneOver task assigned run new spot
  pub fewer : unused new ≤ unused old

-- a stop is gone over
pub record WidensFrom (task : Task) (assigned : Assigned) (run : PartialRun) (spot : ℕ) (old new : List Bool) : Type
    0 where
  pub widens : Widens task assigned run old new
  pub here : IsGoneOver task assigned run new spot

-- a stop lies ahead, and is gone over
pub record WidensAt (task : Task) (assigned : Assigned) (run : PartialRun) (spot : ℕ) (old new : List Bool) : Type
    0 where
  pub widens : Widens task assigned run old new
  pub lies : LiesAhead new spot

-- a run may come by a segment to a stop that does not lie ahead
abbrev pub leads_on : Task → Assigned → PartialRun → List Bool → Segment → Bool
leads_on task assigned run ahead segment = not (get_or ahead segment.to false) && can_take task run assigned.used
    segment

-- a segment leads to a stop that lies ahead, if the run may take it
pub record WidensBy (task : Task) (assigned : Assigned) (run : PartialRun) (segment : Segment)
    (old new : List Bool) : Type 0 where
  pub widens : Widens task assigned run old new
  pub leads : can_take task run assigned.used segment ≡ true → LiesAhead new segment.to

-- the legs from a stop before one of them are gone over
pub record WidensBelow (task : Task) (assigned : Assigned) (run : PartialRun) (spot most : ℕ)
    (old new : List Bool) : Type 0 where
  pub widens : Widens task assigned run old new
  pub leads : (place : ℕ) (leg : Leg) → place < most → slice_get (legs_at task spot) place ≡ Some leg
      → can_take task run assigned.used leg.segment ≡ true → LiesAhead new leg.segment.to

-- the stop where a run began is gone over, as far as the run may turn back
pub record WidensBack (task : Task) (assigned : Assigned) (run : PartialRun) (old new : List Bool) : Type 0 where
  pub widens : Widens task assigned run old new
  pub here : IsGoneOverFrom task assigned run run.first new run.home

-- the legs from there before one of them are gone over
pub record WidensBackBelow (task : Task) (assigned : Assigned) (run : PartialRun) (most : ℕ)
    (old new : List Bool) : Type 0 where
  pub widens : Widens task assigned run old new
  pub leads : (place : ℕ) (leg : Leg) → place < most → slice_get (legs_at task run.home) place ≡ Some leg
      → run.first ≤ leg.first → can_take task run assigned.used leg.segment ≡ true → LiesAhead new leg.segment.to

-- each stop that lies ahead is gone over, and the stop where the run began, if it may turn back
pub record IsClosed (task : Task) (assigned : Assigned) (run : PartialRun) (ahead : List Bool) : Type 0 where
  pub home : run.turned ≡ false → IsGoneOverFrom task assigned run run.first ahead run.home
  pub all : (spot : ℕ) → LiesAhead ahead spot → IsGoneOver task assigned run ahead spot

-- what counts of a stop that may be passed, and of one at which runs end
abbrev pub if_passed : Bool → ℕ → ℕ
if_passed true more = 0
if_passed false more = more

abbrev pub if_ending : Bool → ℕ → ℕ
if_ending true more = more
if_ending false more = 0

-- what the stops ahead that may be passed are worth beyond a level, in dollars
abbrev pub beyond : ℕ → List Node → List Bool → ℕ
beyond level [] ahead = 0
beyond level (node ∷ nodes) [] = 0
beyond level (node ∷ nodes) (true ∷ ahead) = if_passed node.ends (node.value - level) + beyond level nodes ahead
beyond level (node ∷ nodes) (false ∷ ahead) = beyond level nodes ahead

-- what one stop ahead at which runs end is worth beyond a level at most, and two of them
abbrev pub one_end : ℕ → List Node → List Bool → ℕ
one_end level [] ahead = 0
one_end level (node ∷ nodes) [] = 0
one_end level (node ∷ nodes) (true ∷ ahead) = max (one_end level nodes ahead) (if_ending node.ends (node.value - level))
one_end level (node ∷ nodes) (false ∷ ahead) = one_end level nodes ahead

abbrev pub two_ends : ℕ → List Node → List Bool → ℕ
two_ends level [] ahead = 0
two_ends level (node ∷ nodes) [] = 0
two_ends level (node ∷ nodes) (true ∷ ahead) =
    max (two_ends level nodes ahead) (if_ending node.ends (node.value - level) + one_end level nodes ahead)
two_ends level (node ∷ nodes) (false ∷ ahead) = two_ends level nodes ahead

-- what counts of these, if a run may go on from where it is, and from where it began. At a stop at
-- which it ends it goes on from neither.
abbrev pub ends_by : Bool → Bool → ℕ → ℕ → ℕ
ends_by true true one two = two
ends_by true false one two = one
ends_by false true one two = one
ends_by false false one two = 0

abbrev pub goes_on : Task → PartialRun → Bool
goes_on task run = not (ends_in (node_at task run.head))

abbrev pub goes_back : Task → PartialRun → Bool
goes_back task run = not run.turned && not (ends_in (node_at task run.home))

-- what a run may still earn at most, at a level, if the stops ahead count as in a list
abbrev pub most_ahead : ℕ → Task → List Node → PartialRun → List Bool → ℕ
most_ahead level task nodes run ahead =
    (run.left * level + beyond level nodes ahead)
    + ends_by (goes_on task run) (goes_back task run) (one_end level nodes ahead) (two_ends level nodes ahead)

-- it is known what the stops ahead are worth
pub record IsWorth (nodes : List Node) (ahead : List Bool) (worth : Worth) : Type 0 where
  pub levels : 0 < worth.levels
  pub few : worth.levels ≤ 9
  pub passed : (place : ℕ) → place < worth.levels → get_or worth.beyond place 0 ≡ beyond (10 * place) nodes ahead
  pub one : (level : ℕ) → one_end level nodes ahead ≤ worth.first - level
  pub two : (level : ℕ) → two_ends level nodes ahead ≤ (worth.first - level) + (worth.second - level)
  pub order : worth.second ≤ worth.first
  pub low : worth.first ≤ 80

-- a stop that may be passed is added
pub record HasPassed (value : ℕ) (old new : Worth) : Type 0 where
  pub levels : new.levels ≡ old.levels
  pub each : (place : ℕ) → place < old.levels → get_or new.beyond place 0
      ≡ get_or old.beyond place 0 + (value - 10 * place)
  pub first : new.first ≡ old.first
  pub second : new.second ≡ old.second

-- a stop that may be passed is removed
pub record HasTakenBack (value : ℕ) (old new : Worth) : Type 0 where
  pub levels : new.levels ≡ old.levels
  pub each : (place : ℕ) → place < old.levels → get_or new.beyond place 0
      ≡ get_or old.beyond place 0 - (value - 10 * place)
  pub first : new.first ≡ old.first
  pub second : new.second ≡ old.second

-- a stop at which runs end is added
pub record HasRanked (value : ℕ) (old new : Worth) : Type 0 where
  pub levels : new.levels ≡ old.levels
  pub same : new.beyond ≡ old.beyond
  pub one : (level : ℕ) → (old.first - level ≤ new.first - level) × (value - level ≤ new.first - level)
  pub two : (level : ℕ) → ((old.first - level) + (old.second - level) ≤ (new.first - level) + (new.second - level))
      × ((value - level) + (old.first - level) ≤ (new.first - level) + (new.second - level))
  pub order : new.second ≤ new.first
  pub low : (most : ℕ) → old.first ≤ most → value ≤ most → new.first ≤ most

-- what a run may earn at most by the level at a place
abbrev pub at_level : Worth → ℕ → ℕ → Bool → Bool → ℕ
at_level worth place left on back =
    (left * (10 * place) + get_or worth.beyond place 0)
    + ends_by on back (worth.first - 10 * place) ((worth.first - 10 * place) + (worth.second - 10 * place))

-- an amount is no less than what a run may earn by some level
abbrev pub IsLeast : Worth → ℕ → Bool → Bool → ℕ → Type 0
IsLeast worth left on back least = (place : ℕ) × (place < worth.levels) × (at_level worth place left on back ≤ least)

-- all ways on from a run earn at most this much
abbrev pub EndsAtMost : Task → Assigned → PartialRun → ℕ → Type 0
EndsAtMost task assigned run most = LeadsToAtMost task (partial assigned run) most

-- a run may go on from where it is, and all ways on from it earn at most this much
abbrev pub IsInVain : Task → Assigned → PartialRun → ℕ → Type 0
IsInVain task assigned run most = (ends_in (node_at task run.head) ≡ false) × EndsAtMost task assigned run most
