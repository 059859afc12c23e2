-- The ways on from a run: by a leg to a stop ahead, or back to where the run began. One is in vain
-- if the run and the trains after it can earn no more by it than what has been found.
use Rattle.std.specs.Prelude.{◌≡◌, ℕ, ◌+◌, ◌<◌, ◌≤◌, Bool, true, false, ◌⊎◌, Some, List, length, slice_get}
use Rattle.search_task.specs.declared.task.Node.{Node}
use Rattle.search_task.specs.declared.task.Task.{Task}
use Rattle.search_task.specs.declared.task.Leg.{Leg}
use Rattle.best_run.specs.declared.lookahead.Outlook.{Outlook}
use Rattle.best_run.specs.declared.state.Assigned.{Assigned}
use Rattle.best_run.specs.declared.state.PartialRun.{PartialRun}
use Rattle.best_run.specs.declared.ways_on.WaysOn.{WaysOn}
use Rattle.best_run.specs.Ahead.{EndsAtMost, IsClosed, LiesAhead, most_ahead}
use Rattle.best_run.specs.EndStops.{Counts, HasWorth}
use Rattle.best_run.specs.Moves.{along, can_take, turned_back, using}
use Rattle.best_run.specs.Suffix.{ArePrunedByCap, EarnAtMost}
use Rattle.legal_runs.specs.Legal.{map_borders}
use Rattle.reach.specs.Search.{map_spots}
use Rattle.search_task.specs.Legs.{legs_at}
use Rattle.search_task.specs.Marks.{AreBoth}
use Rattle.search_task.specs.Spots.{ends_in, node_at}

-- it is known what lies ahead of a run once it turns back, and what that is worth; each border and
-- each spot has its mark
pub record KnowsHome (task : Task) (assigned : Assigned) (run : PartialRun) (home : Outlook) : Type 0 where
  pub closed : IsClosed task assigned run home.ahead
  pub known : HasWorth task assigned run home.ahead home.worth
  pub borders : length assigned.used ≡ map_borders
  pub spots : length run.visited ≡ map_spots

-- a run that earns at most so much and the trains after it can earn no more than has been found:
-- these earn so much by themselves, or are alike and earn no more than the run
abbrev pub IsShort : Task → Assigned → ℕ → ℕ → ℕ → Type 0
IsShort task assigned kind most best =
    ((bound : ℕ) × EarnAtMost task (assigned.next + 1) bound × (assigned.total + most + bound ≤ best))
    ⊎ ArePrunedByCap task (assigned.next + 1) kind most (assigned.total + most) best

-- by some level, what lies ahead in a list leaves a run and the trains after it too little
pub record IsLow (task : Task) (assigned : Assigned) (run : PartialRun) (ahead : List Bool) (best : ℕ) : Type 0 where
  pub nodes : List Node
  pub counts : Counts task assigned run nodes
  pub level : ℕ
  pub most : ℕ
  pub earns : run.value + most_ahead level task nodes run ahead ≤ most
  pub short : IsShort task assigned run.most most best

-- a run goes on in vain from where it is to each stop in a list
abbrev pub GoesInVain : Task → Assigned → PartialRun → List Bool → ℕ → Type 0
GoesInVain task assigned run vain best =
    ends_in (node_at task run.head) ≡ false → (place : ℕ) (leg : Leg)
    → slice_get (legs_at task run.head) place ≡ Some leg → LiesAhead vain leg.segment.to
    → can_take task run assigned.used leg.segment ≡ true
    → EndsAtMost task (using assigned leg.segment) (along task run leg.segment) best

-- it turns back in vain to where it began
abbrev pub TurnsInVain : Task → Assigned → PartialRun → ℕ → Type 0
TurnsInVain task assigned run best =
    run.turned ≡ false → ends_in (node_at task run.home) ≡ false → (place : ℕ) (leg : Leg)
    → slice_get (legs_at task run.home) place ≡ Some leg → run.first ≤ leg.first
    → can_take task (turned_back run) assigned.used leg.segment ≡ true
    → EndsAtMost task (using assigned leg.segment) (along task (turned_back run) leg.segment) best

-- whatever is said to be in vain is
pub record AreWaysOn (task : Task) (assigned : Assigned) (run : PartialRun) (best : ℕ) (ways : WaysOn) : Type 0 where
  pub go : GoesInVain task assigned run ways.vain best
  pub turn : ways.turns_in_vain ≡ true → TurnsInVain task assigned run best

-- The ways home have been found, and those by the legs before a place. If all of them are in vain,
-- so is each to a stop that lies ahead, and the run is short where it is.
pub record AreFound (task : Task) (assigned : Assigned) (run : PartialRun) (best : ℕ) (home : List Bool) (count : ℕ)
    (ways : WaysOn) : Type 0 where
  pub are : AreWaysOn task assigned run best ways
  pub kept : (spot : ℕ) → LiesAhead home spot → LiesAhead ways.ahead spot
  pub leads : (place : ℕ) (leg : Leg) → place < count → slice_get (legs_at task run.head) place ≡ Some leg
      → can_take task run assigned.used leg.segment ≡ true → LiesAhead ways.ahead leg.segment.to
  pub all : ways.all_in_vain ≡ true → (spot : ℕ) → LiesAhead ways.ahead spot → LiesAhead ways.vain spot
  pub turn : ways.all_in_vain ≡ true → ways.turns_in_vain ≡ true
  pub low : ways.all_in_vain ≡ true → IsLow task assigned run home best

-- the stops of one more way lie ahead; they are in vain, or not all ways are
pub record IsWayAdded (way : List Bool) (in_vain : Bool) (old new : WaysOn) : Type 0 where
  pub ahead : AreBoth old.ahead way new.ahead
  pub vain : in_vain ≡ true → AreBoth old.vain way new.vain × (new.all_in_vain ≡ old.all_in_vain)
  pub worth : in_vain ≡ false → (new.vain ≡ old.vain) × (new.all_in_vain ≡ false)
  pub turns : new.turns_in_vain ≡ old.turns_in_vain
