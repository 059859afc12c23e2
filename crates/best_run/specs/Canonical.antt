-- What the trains that are left can reach. The borders that no leg from there crosses make no
-- difference to them. So two states that differ only in such borders are alike: between runs, or
-- with the same run begun.
use Rattle.std.specs.Prelude.{◌≡◌, ℕ, ◌+◌, ◌*◌, ◌<◌, ◌≤◌, Bool, true, false, not, ◌&&◌, ◌||◌, ◌⊎◌, Option, Some, None, List, []}
use Rattle.std.specs.Prelude.{length, get_or, replicate, slice_get}
use Rattle.best_run.specs.declared.search_state.SearchState.{SearchState}
use Rattle.best_run.specs.declared.state.Assigned.{Assigned}
use Rattle.best_run.specs.declared.state.PartialRun.{PartialRun}
use Rattle.search_task.specs.declared.task.Task.{Task}
use Rattle.search_task.specs.declared.task.Leg.{Leg}
use Rattle.best_run.specs.declared.canonical.InReach.{InReach}
use Rattle.best_run.specs.Ahead.{LiesAhead, Widens, beyond, two_ends}
use Rattle.search_task.specs.Marks.{Freer}
use Rattle.best_run.specs.Memo.{IsBarred}
use Rattle.reach.specs.Search.{map_spots}
use Rattle.search_task.specs.Spots.{ends_in, node_at, own_in, stop_in}
use Rattle.search_task.specs.Crossed.{misses}
use Rattle.search_task.specs.Legs.{IsListed, IsStop, legs_at}

-- each leg from a stop that crosses no used border leads to a stop in reach
abbrev pub AllLead : Task → List Bool → List Bool → ℕ → Type 0
AllLead task used reach spot =
    (place : ℕ) (leg : Leg) → slice_get (legs_at task spot) place ≡ Some leg
    → misses used leg.segment.borders.items ≡ true → LiesAhead reach leg.segment.to

-- a run may set out from a token of the company, and go on from a stop in reach that it may pass
abbrev pub SetsOut : Task → List Bool → ℕ → Type 0
SetsOut task reach spot = (own_in (node_at task spot) ≡ true)
    ⊎ (LiesAhead reach spot × (ends_in (node_at task spot) ≡ false))

abbrev pub sets_out : Task → List Bool → ℕ → Bool
sets_out task reach spot =
    stop_in (node_at task spot) && (own_in (node_at task spot)
    || (get_or reach spot false && not (ends_in (node_at task spot))))

-- all stops to which a run may come lie in reach
abbrev pub IsInReach : Task → List Bool → List Bool → Type 0
IsInReach task used reach = (spot : ℕ) → IsStop task spot → SetsOut task reach spot → AllLead task used reach spot

-- a stop lies in reach, and nothing else that did not before
pub record Holds (stop : ℕ) (old new : List Bool) : Type 0 where
  pub kept : (spot : ℕ) → LiesAhead old spot → LiesAhead new spot
  pub over : (spot : ℕ) → LiesAhead new spot → LiesAhead old spot ⊎ (stop ≡ spot)
  pub lies : LiesAhead new stop

-- all stops to which a run may come from one that lies in reach do so too
abbrev pub IsClosed : Task → List Bool → List Bool → Type 0
IsClosed task used reach =
    (spot : ℕ) → LiesAhead reach spot → ends_in (node_at task spot) ≡ false → AllLead task used reach spot

-- what is in reach of a run that sets out from a stop: the stop, and all to which it may come
pub record IsNear (task : Task) (used : List Bool) (stop : ℕ) (near : List Bool) : Type 0 where
  pub lies : LiesAhead near stop
  pub here : AllLead task used near stop
  pub all : IsClosed task used near

-- a stop lies among some in reach, from which a run does not come to others; by some level, what
-- they are worth is no more than the cap
pub record IsCappedAt (task : Task) (used : List Bool) (reach : InReach) (spot : ℕ) : Type 0 where
  pub near : List Bool
  pub within : (other : ℕ) → LiesAhead near other → LiesAhead reach.ahead other
  pub lies : LiesAhead near spot
  pub all : IsClosed task used near
  pub level : ℕ
  pub low : (reach.left * level + beyond level task.spots.items near) + two_ends level task.spots.items near ≤ reach.cap

-- a run that sets out from a stop comes to none but these
pub record IsCappedFrom (task : Task) (used : List Bool) (reach : InReach) (spot : ℕ) : Type 0 where
  pub at : IsCappedAt task used reach spot
  pub here : AllLead task used at.near spot

-- each run that begins at a token, if legs lead from there, earns no more than the cap
abbrev pub AreCapped : Task → List Bool → InReach → Type 0
AreCapped task used reach =
    (spot : ℕ) → IsStop task spot → own_in (node_at task spot) ≡ true
    → (legs_at task spot ≡ []) ⊎ IsCappedFrom task used reach spot

-- what is in reach of a token is added
pub record ReachesToken (task : Task) (used : List Bool) (stop : ℕ) (old new : InReach) : Type 0 where
  pub left : new.left ≡ old.left
  pub cap : old.cap ≤ new.cap
  pub kept : (spot : ℕ) → LiesAhead old.ahead spot → LiesAhead new.ahead spot
  pub from : ((spot : ℕ) → LiesAhead old.ahead spot → IsCappedAt task used old spot) → IsCappedFrom task used new stop
  pub over : (spot : ℕ) → LiesAhead new.ahead spot → LiesAhead old.ahead spot ⊎ IsCappedAt task used new spot

-- each stop in reach is capped, and so is each run that begins at a token at a listed stop before one
pub record AreCappedBelow (task : Task) (used : List Bool) (most : ℕ) (reach : InReach) : Type 0 where
  pub each : (spot : ℕ) → LiesAhead reach.ahead spot → IsCappedAt task used reach spot
  pub own : (spot : ℕ) → IsListed task.stops.items most spot → own_in (node_at task spot) ≡ true
      → IsCappedFrom task used reach spot

-- a run that has visited nothing
abbrev pub anywhere : PartialRun
anywhere =
    record {
      home = 0;
      first = 0;
      turned = false;
      head = 0;
      most = 0;
      left = 1;
      value = 0;
      visited =
          replicate map_spots false;
    }

-- more stops lie in reach, and all to which a leg from a stop leads
pub record WidensTo (task : Task) (assigned : Assigned) (spot : ℕ) (old new : List Bool) : Type 0 where
  pub widens : Widens task assigned anywhere old new
  pub here : AllLead task assigned.used new spot

-- each leg from a stop before a place that crosses no used border crosses none of the shut ones
abbrev pub AreOpenBelow : Task → List Bool → ℕ → ℕ → List Bool → Type 0
AreOpenBelow task used spot most shut =
    (place : ℕ) (leg : Leg) → place < most → slice_get (legs_at task spot) place ≡ Some leg
    → misses used leg.segment.borders.items ≡ true → misses shut leg.segment.borders.items ≡ true

abbrev pub AreOpen : Task → List Bool → ℕ → List Bool → Type 0
AreOpen task used spot shut =
    (place : ℕ) (leg : Leg) → slice_get (legs_at task spot) place ≡ Some leg
    → misses used leg.segment.borders.items ≡ true → misses shut leg.segment.borders.items ≡ true

-- fewer borders are shut, and among them are still the used ones, if they were before
pub record Opens (used old new : List Bool) : Type 0 where
  pub fewer : (borders : List ℕ) → misses old borders ≡ true → misses new borders ≡ true
  pub kept : Freer old used → Freer new used

-- each leg from the listed stops before one from which a run may go on is open, and the used
-- borders are shut
pub record IsShutBelow (task : Task) (used reach : List Bool) (most : ℕ) (shut : List Bool) : Type 0 where
  pub kept : Freer shut used
  pub open_legs : (spot : ℕ) → IsListed task.stops.items most spot → SetsOut task reach spot
      → AreOpen task used spot shut

-- each leg from the listed stops from which a run may go on is open, and the used borders are shut
pub record IsShut (task : Task) (used reach shut : List Bool) : Type 0 where
  pub kept : Freer shut used
  pub open_legs : (spot : ℕ) → IsStop task spot → SetsOut task reach spot → AreOpen task used spot shut

-- more stops lie in reach, a stop among them, and so do all to which a run may come from there
pub record ReachesAt (task : Task) (used : List Bool) (spot : ℕ) (old new : List Bool) : Type 0 where
  pub kept : (other : ℕ) → LiesAhead old other → LiesAhead new other
  pub lies : LiesAhead new spot
  pub reaches : IsInReach task used old → IsInReach task used new

-- only the used borders differ: they are those that are shut
pub record IsShutOff (task : Task) (assigned : Assigned) (reach : List Bool) (like : Assigned) : Type 0 where
  pub same : like ≡ record assigned { used = like.used }
  pub shut : IsShut task assigned.used reach like.used

-- a run may set out from where it is, and from where it began, if it may pass these stops
abbrev pub PassesFrom : Task → List Bool → ℕ → Type 0
PassesFrom task reach spot = IsStop task spot × (ends_in (node_at task spot) ≡ false → SetsOut task reach spot)

pub record MayGoOn (task : Task) (reach : List Bool) (run : PartialRun) : Type 0 where
  pub head : PassesFrom task reach run.head
  pub home : PassesFrom task reach run.home
  pub spots : length run.visited ≡ map_spots

-- the run begun, if any, is the same, except that all stops that are not in reach count as visited
abbrev pub IsRunCanonical : Task → List Bool → Option PartialRun → Option PartialRun → Type 0
IsRunCanonical task reach None None = Unit {0}
IsRunCanonical task reach None (Some like) = ⊥
IsRunCanonical task reach (Some run) None = ⊥
IsRunCanonical task reach (Some run) (Some like) = MayGoOn task reach run × IsBarred reach run like

-- a state differs from another only in borders that neither the run begun, if any, nor one to come
-- can cross, and in stops to which they cannot come
pub record IsCanonical (task : Task) (assigned : Assigned) (run : Option PartialRun) (like : SearchState) : Type 0 where
  pub reach : List Bool
  pub reaches : IsInReach task assigned.used reach
  pub off : IsShutOff task assigned reach like.assigned
  pub begun : IsRunCanonical task reach run like.run
