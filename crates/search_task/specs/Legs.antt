-- Legs of plain track: from a stop by a segment, and over sides by others, to the next stop, over
-- no border twice. A run goes over a leg at once.
use Rattle.std.specs.Prelude.{◌≡◌, ℕ, ◌+◌, ◌<◌, ◌≤◌, Bool, true, false, ◌⊎◌, Option, Some, None, List, [], ◌∷◌, ◌++◌}
use Rattle.std.specs.Prelude.{length, slice_get}
use Rattle.legal_runs.specs.TwoTrain.{none_used}
use Rattle.reach.specs.Position.{IsAmong}
use Rattle.reach.specs.Search.{map_spots}
use Rattle.reach.specs.declared.walk.WalkStep.{WalkStep}
use Rattle.search_task.specs.declared.task.Departures.{Departures}
use Rattle.search_task.specs.declared.task.Segment.{Segment}
use Rattle.search_task.specs.declared.task.Task.{Task}
use Rattle.search_task.specs.declared.task.Leg.{Leg}
use Rattle.search_task.specs.declared.legs.Path.{Path}
use Rattle.search_task.specs.Crossed.{marked_all, misses, numbers_in}
use Rattle.search_task.specs.Fit.{IsFit}
use Rattle.search_task.specs.Spots.{LeadsFrom, ends_in, node_at, own_in, stop_in}

-- a segment, with its place among those that lead from a spot
pub record Hop : Type 0 where
  pub place : ℕ
  pub segment : Segment

-- a side that may be passed
abbrev pub IsPassed : Task → ℕ → Type 0
IsPassed task spot = (stop_in (node_at task spot) ≡ false) × (ends_in (node_at task spot) ≡ false)

-- by a segment, and others after it, one comes over sides to a stop
abbrev pub LeadsTo : Task → Segment → List Hop → ℕ → Type 0
LeadsTo task segment [] to = (stop_in (node_at task segment.to) ≡ true) × (segment.to ≡ to)
LeadsTo task segment (hop ∷ hops) to =
    IsPassed task segment.to × LeadsFrom task segment.to hop.place hop.segment × LeadsTo task hop.segment hops to

-- the borders that they cross
abbrev pub borders_by : Segment → List Hop → List ℕ
borders_by segment [] = segment.borders.items
borders_by segment (hop ∷ hops) = segment.borders.items ++ borders_by hop.segment hops

-- their steps
abbrev pub steps_by : Segment → List Hop → List WalkStep
steps_by segment [] = segment.step ∷ []
steps_by segment (hop ∷ hops) = segment.step ∷ steps_by hop.segment hops

-- none of them crosses a border that is used, or that one before it crosses
abbrev pub AreFree : List Bool → Segment → List Hop → Type 0
AreFree used segment [] = misses used segment.borders.items ≡ true
AreFree used segment (hop ∷ hops) =
    (misses used segment.borders.items ≡ true) × AreFree (marked_all used segment.borders.items) hop.segment hops

-- a leg is made of a segment at a place and of others, after some steps over the used borders: it
-- crosses these as well
pub record IsMadeOf (task : Task) (used : List Bool) (walked : List WalkStep) (place : ℕ) (segment : Segment)
    (hops : List Hop) (leg : Leg) : Type 0 where
  pub leads : LeadsTo task segment hops leg.segment.to
  pub free : AreFree used segment hops
  pub place_is : leg.first ≡ place
  pub borders : leg.segment.borders.items ≡ numbers_in (marked_all used (borders_by segment hops))
  pub steps : leg.steps.items ≡ walked ++ steps_by segment hops

-- a leg by a segment is among some
pub record HasLeg (task : Task) (used : List Bool) (walked : List WalkStep) (place : ℕ) (segment : Segment)
    (hops : List Hop) (to : ℕ) (legs : List Leg) : Type 0 where
  pub leg : Leg
  pub among : IsAmong leg legs
  pub made : IsMadeOf task used walked place segment hops leg
  pub to_is : leg.segment.to ≡ to

-- the legs by a segment are added to some
pub record AddsLegs (task : Task) (used : List Bool) (walked : List WalkStep) (place : ℕ) (segment : Segment)
    (old new : List Leg) : Type 0 where
  pub kept : (leg : Leg) → IsAmong leg old → IsAmong leg new
  pub sound : (leg : Leg) → IsAmong leg new → IsAmong leg old
      ⊎ ((hops : List Hop) × IsMadeOf task used walked place segment hops leg)
  pub complete : (hops : List Hop) (to : ℕ) → LeadsTo task segment hops to → AreFree used segment hops
      → HasLeg task used walked place segment hops to new

-- the legs by a segment after a path are added to some
abbrev pub AddsLegsBy : Task → List Bool → Path → Segment → List Leg → List Leg → Type 0
AddsLegsBy task used path segment old new =
    AddsLegs task used path.steps.items path.first segment old new

-- a path is longer by a segment
pub record IsLonger (path : Path) (segment : Segment) (longer : Path) : Type 0 where
  pub first : longer.first ≡ path.first
  pub steps : longer.steps.items ≡ path.steps.items ++ segment.step ∷ []

-- a leg is made of a path and of one more segment, and crosses the borders of a set
pub record IsLegBy (path : Path) (segment : Segment) (set : List Bool) (leg : Leg) : Type 0 where
  pub first : leg.first ≡ path.first
  pub to : leg.segment.to ≡ segment.to
  pub borders : leg.segment.borders.items ≡ numbers_in set
  pub steps : leg.steps.items ≡ path.steps.items ++ segment.step ∷ []

-- no segment of a path yet
pub record IsNoPath (path : Path) : Type 0 where
  pub steps : path.steps.items ≡ []

-- the same path
pub record IsSamePath (old new : Path) : Type 0 where
  pub first : new.first ≡ old.first
  pub steps : new.steps.items ≡ old.steps.items

-- the legs by the segments from a spot before one of them, after a segment that led there, are
-- added
pub record AddsBelow (task : Task) (used : List Bool) (walked : List WalkStep) (place : ℕ) (spot most : ℕ)
    (old new : List Leg) : Type 0 where
  pub kept : (leg : Leg) → IsAmong leg old → IsAmong leg new
  pub sound : (leg : Leg) → IsAmong leg new → IsAmong leg old
      ⊎ ((hop : Hop) × LeadsFrom task spot hop.place hop.segment
      × ((hops : List Hop) × IsMadeOf task used walked place hop.segment hops leg))
  pub complete : (hop : Hop) (hops : List Hop) (to : ℕ) → hop.place < most → LeadsFrom task spot hop.place hop.segment
      → LeadsTo task hop.segment hops to → AreFree used hop.segment hops
      → HasLeg task used walked place hop.segment hops to new

-- the legs from a stop by its segments before one of them
pub record AreLegsFrom (task : Task) (stop most : ℕ) (legs : List Leg) : Type 0 where
  pub sound : (leg : Leg) → IsAmong leg legs → (segment : Segment) × LeadsFrom task stop leg.first segment
      × ((hops : List Hop) × IsMadeOf task none_used [] leg.first segment hops leg)
  pub complete : (place : ℕ) (segment : Segment) (hops : List Hop) (to : ℕ) → place < most
      → LeadsFrom task stop place segment → LeadsTo task segment hops to → AreFree none_used segment hops
      → HasLeg task none_used [] place segment hops to legs

-- the legs from a stop
pub record AreLegsOf (task : Task) (stop : ℕ) (legs : List Leg) : Type 0 where
  pub sound : (leg : Leg) → IsAmong leg legs → (segment : Segment) × LeadsFrom task stop leg.first segment
      × ((hops : List Hop) × IsMadeOf task none_used [] leg.first segment hops leg)
  pub complete : (place : ℕ) (segment : Segment) (hops : List Hop) (to : ℕ) → LeadsFrom task stop place segment
      → LeadsTo task segment hops to → AreFree none_used segment hops
      → HasLeg task none_used [] place segment hops to legs

-- the legs from the first spots, as far as these are stops
pub record AreDepartures (task : Task) (count : ℕ) (all : List Departures) : Type 0 where
  pub long : length all ≡ count
  pub each : (stop : ℕ) (from : Departures) → slice_get all stop ≡ Some from → stop_in (node_at task stop) ≡ true
      → AreLegsOf task stop from.legs.items

-- from one spot on before another there is no stop
abbrev pub AreSides : Task → ℕ → ℕ → Type 0
AreSides task from to = (spot : ℕ) → from ≤ spot → spot < to → stop_in (node_at task spot) ≡ false

-- a number is that of a stop
abbrev pub IsStop : Task → ℕ → Type 0
IsStop task spot = (spot < map_spots) × (stop_in (node_at task spot) ≡ true)

-- the legs from a stop, by its number
abbrev pub legs_in : Option Departures → List Leg
legs_in (Some from) = from.legs.items
legs_in None = []

abbrev pub legs_at : Task → ℕ → List Leg
legs_at task stop = legs_in (slice_get task.departures.items stop)

-- an item is among some, at a place before one
abbrev pub IsListed : {A : Type 0} → List A → ℕ → A → Type 0
IsListed items most item = (place : ℕ) × (place < most) × (slice_get items place ≡ Some item)

-- the stops before one from which legs lead are listed, and all that are listed are stops
pub record AreStops (task : Task) (count : ℕ) (stops : List ℕ) : Type 0 where
  pub each : (stop : ℕ) → stop < count → stop_in (node_at task stop) ≡ true
      → (legs_at task stop ≡ []) ⊎ IsListed stops (length stops) stop
  pub only : (place stop : ℕ) → slice_get stops place ≡ Some stop → IsStop task stop

-- the company has no token from one spot on before another
abbrev pub HasNoHome : Task → ℕ → ℕ → Type 0
HasNoHome task from to = (spot : ℕ) → from ≤ spot → spot < to → own_in (node_at task spot) ≡ false

-- the spots from one on before another where it has tokens, in order
abbrev pub AreHomes : Task → ℕ → ℕ → List ℕ → Type 0
AreHomes task from to [] = HasNoHome task from to
AreHomes task from to (home ∷ homes) =
    (from ≤ home) × (home < to) × (own_in (node_at task home) ≡ true) × HasNoHome task from home
    × AreHomes task (home + 1) to homes

-- a leg leads back from where another one ends, and crosses no border but those of it
pub record HasMirror (task : Task) (leg : Leg) : Type 0 where
  pub place : ℕ
  pub back : Leg
  pub is_there : slice_get (legs_at task leg.segment.to) place ≡ Some back
  pub within : (border : ℕ) → IsAmong border back.segment.borders.items → IsAmong border leg.segment.borders.items

-- one does for each leg from a spot, and for each leg
abbrev pub AllLeadBack : Task → ℕ → Type 0
AllLeadBack task spot = (place : ℕ) (leg : Leg) → slice_get (legs_at task spot) place ≡ Some leg → HasMirror task leg

abbrev pub IsMirrored : Task → Type 0
IsMirrored task = (spot : ℕ) → AllLeadBack task spot

-- the legs from each stop are known, and the stops from which they lead, and where the company has
-- tokens. If the task says so, legs lead back over all of them.
pub record AreReady (task : Task) : Type 0 where
  pub long : length task.departures.items ≡ map_spots
  pub each : (stop : ℕ) (from : Departures) → slice_get task.departures.items stop ≡ Some from
      → stop_in (node_at task stop) ≡ true → AreLegsOf task stop from.legs.items
  pub stops : AreStops task map_spots task.stops.items
  pub homes : AreHomes task 0 map_spots task.homes.items
  pub mirrored : task.mirrored ≡ true → IsMirrored task

-- a search may walk over the task: its numbers stay within their bounds, and its legs are known
pub record IsReady (task : Task) : Type 0 where
  pub fit : IsFit task
  pub legs : AreReady task
