-- What a search works on, from a position. Its spots are the ends of the hexes, by their numbers,
-- with what the stops mean to a company. The segments that lead from a spot are the steps of walks
-- that may be taken from there.
use Rattle.std.specs.Prelude.{◌≡◌, ◌↔◌, ℕ, ◌%◌, ◌<◌, ◌≤◌, true, false, ◌⊎◌, Option, Some, None, option_map, List, []}
use Rattle.std.specs.Prelude.{◌∷◌, ◌++◌, length, slice_get}
use Rattle.map_tables.specs.Hex.{index_of}
use Rattle.map_tables.specs.declared.hex.Hex.{Hex}
use Rattle.map_tables.specs.declared.place.Stop.{Stop}
use Rattle.map_tables.specs.declared.track.TrackEnd.{TrackEnd}
use Rattle.map_tables.specs.declared.track.TrackEnd.TheVariants.{Side as AtSide, Stop as AtStop}
use Rattle.map_tables.specs.declared.track.Link.{Link}
use Rattle.reach.specs.Position.{Position, HasToken, IsAmong, IsFull, is_red, value_of}
use Rattle.reach.specs.Search.{map_spots, spot_number}
use Rattle.reach.specs.Walk.{AreJoined, IsTrack, across_end, entered_at, left_at, spot_at, stop_of}
use Rattle.reach.specs.declared.walk.Spot.{Spot}
use Rattle.reach.specs.declared.walk.WalkStep.{WalkStep}
use Rattle.tables.specs.Train.{stops_of}
use Rattle.tables.specs.declared.rolling_stock.Kind.{Kind}
use Rattle.tables.specs.declared.roster.Company.{Company}
use Rattle.legal_runs.specs.Legal.{border_at}
use Rattle.search_task.specs.declared.segments.Entry.{Entry}
use Rattle.search_task.specs.declared.task.Node.{Node}
use Rattle.search_task.specs.declared.task.Segment.{Segment}
use Rattle.search_task.specs.declared.task.Task.{Task}
use Rattle.search_task.specs.Segments.{segments_from}
use Rattle.search_task.specs.Spots.{LeadsFrom, ends_in, node_at, own_in, stop_in, value_in}

-- a step may be taken from a spot, by its number
pub record GoesFrom (number : ℕ) (step : WalkStep) : Type 0 where
  pub spot : Spot
  pub number_is : spot_number spot ≡ number
  pub joined : AreJoined spot (entered_at step)

-- a segment is that of a step: it leads to where the step is left, over the border at which it is
-- entered
pub record IsSegmentOf (step : WalkStep) (segment : Segment) : Type 0 where
  pub to : segment.to ≡ spot_number (left_at step)
  pub step_is : segment.step ≡ step
  pub borders : segment.borders.items ≡ border_at (entered_at step).hex (entered_at step).end

-- what a stop means to the company
pub record IsStopNode (position : Position) (company : Company) (stop : Stop) (node : Option Node) : Type 0 where
  pub stops : stop_in node ≡ true
  pub value : value_in node ≡ value_of position stop
  pub own : (own_in node ≡ true) ↔ HasToken position stop company
  pub passes : (ends_in node ≡ false) ↔ ((¬ (is_red position stop ≡ true)) × (¬ IsFull position stop company))

-- a side, which means nothing to it
pub record IsSideNode (node : Option Node) : Type 0 where
  pub stops : stop_in node ≡ false
  pub value : value_in node ≡ 0
  pub own : own_in node ≡ false
  pub passes : ends_in node ≡ false

abbrev pub IsNodeAt : Position → Company → Option Stop → Option Node → Type 0
IsNodeAt position company (Some stop) node = IsStopNode position company stop node
IsNodeAt position company None node = IsSideNode node

-- the most stops of a run: the borders allow no more than 280, so a train without a bound never has
-- fewer left than there are borders
abbrev pub most_of : Option ℕ → ℕ
most_of (Some most) = most
most_of None = 560

abbrev pub most_of_all : List Kind → List ℕ
most_of_all [] = []
most_of_all (kind ∷ kinds) = most_of (stops_of kind) ∷ most_of_all kinds

-- a segment is that of a step which may be taken from a spot
pub record IsStepFrom (position : Position) (number : ℕ) (segment : Segment) : Type 0 where
  pub step : WalkStep
  pub track : IsTrack position step
  pub goes : GoesFrom number step
  pub segment_is : IsSegmentOf step segment

-- the segment of a step is among those that lead from a spot
pub record HasSegmentOf (task : Task) (number : ℕ) (step : WalkStep) : Type 0 where
  pub index : ℕ
  pub segment : Segment
  pub leads : LeadsFrom task number index segment
  pub segment_is : IsSegmentOf step segment

-- the task is that of the position, for these trains of a company
pub record Describes (position : Position) (company : Company) (kinds : List Kind) (task : Task) : Type 0 where
  pub spots : (spot : Spot) → IsNodeAt position company (stop_of spot) (node_at task (spot_number spot))
  pub sound : (number index : ℕ) (segment : Segment) → LeadsFrom task number index segment
      → IsStepFrom position number segment
  pub complete : (number : ℕ) (step : WalkStep) → IsTrack position step → GoesFrom number step
      → HasSegmentOf task number step
  pub trains : task.trains.items ≡ most_of_all kinds

-- the number of the spot from which a step is taken that is entered at an end of a hex
abbrev pub number_before : Hex → TrackEnd → Option ℕ
number_before hex (AtSide side) = option_map spot_number (across_end hex (AtSide side))
number_before hex (AtStop number) = Some (spot_number (spot_at hex (AtStop number)))

-- a step may be taken from a spot with this number
abbrev pub ComesFrom : ℕ → WalkStep → Type 0
ComesFrom number step = number_before (entered_at step).hex (entered_at step).end ≡ Some number

-- the number of the spot from which a step may be taken, or a number that no spot has
abbrev pub number_or_none : Option ℕ → ℕ
number_or_none (Some number) = number
number_or_none None = map_spots

abbrev pub code_before : WalkStep → ℕ
code_before step = number_or_none (number_before (entered_at step).hex (entered_at step).end)

-- these are all steps of a position
abbrev pub AreSteps : Position → List WalkStep → Type 0
AreSteps position steps = (step : WalkStep) → IsAmong step steps ↔ IsTrack position step

-- these are steps of a position, and all that lie in its first hexes
pub record StepsBefore (position : Position) (steps : List WalkStep) (index : ℕ) : Type 0 where
  pub added : (step : WalkStep) → index_of step.link.hex < index → IsTrack position step → IsAmong step steps
  pub only : (step : WalkStep) → IsAmong step steps → IsTrack position step

-- the steps of such links are added
pub record Adds (P : Link → Type 0) (old new : List WalkStep) : Type 0 where
  pub kept : (step : WalkStep) → IsAmong step old → IsAmong step new
  pub added : (step : WalkStep) → P step.link → IsAmong step new
  pub only : (step : WalkStep) → IsAmong step new → IsAmong step old ⊎ P step.link

-- a segment is that of one of some steps
pub record IsOfStep (number : ℕ) (steps : List WalkStep) (segment : Segment) : Type 0 where
  pub step : WalkStep
  pub among : IsAmong step steps
  pub comes : ComesFrom number step
  pub segment_is : IsSegmentOf step segment

-- the segment of a step is one of some
pub record HasIts (segments : List Segment) (step : WalkStep) : Type 0 where
  pub segment : Segment
  pub among : IsAmong segment segments
  pub segment_is : IsSegmentOf step segment

-- these are the segments of those steps that may be taken from a spot with this number
pub record AreSegmentsFrom (number : ℕ) (steps : List WalkStep) (segments : List Segment) : Type 0 where
  pub sound : (segment : Segment) → IsAmong segment segments → IsOfStep number steps segment
  pub complete : (step : WalkStep) → IsAmong step steps → ComesFrom number step → HasIts segments step

-- these are the segments of those steps that may be taken from each spot
abbrev pub AreSegments : List WalkStep → List Entry → Type 0
AreSegments steps entries = (number : ℕ) → AreSegmentsFrom number steps (segments_from number entries)

-- what is at a number: the spot with this number; the first six of each hex are its sides
pub record IsNumbered (position : Position) (company : Company) (number : ℕ) (node : Node) : Type 0 where
  pub spot : (spot : Spot) → spot_number spot ≡ number → IsNodeAt position company (stop_of spot) (Some node)
  pub value : node.value ≤ 80
  pub side : node.stop ≡ false → node.value ≡ 0
  pub first : number % 8 < 6 → IsSideNode (Some node)

-- all spots by their numbers
pub record AreNumbered (position : Position) (company : Company) (nodes : List Node) : Type 0 where
  pub all : length nodes ≡ map_spots
  pub each : (number : ℕ) (node : Node) → slice_get nodes number ≡ Some node → IsNumbered position company number node

-- the sides, and the stops before a number
pub record AreNumberedBefore (position : Position) (company : Company) (most : ℕ) (nodes : List Node) : Type 0 where
  pub all : length nodes ≡ map_spots
  pub each : (number : ℕ) (node : Node) → slice_get nodes number ≡ Some node → (number < most) ⊎ (number % 8 < 6)
      → IsNumbered position company number node

-- to the segments of some steps that of one more step is added
abbrev pub TakesStep : WalkStep → List Entry → List Entry → Type 0
TakesStep step old new = (steps : List WalkStep) → AreSegments steps old → AreSegments (steps ++ step ∷ []) new

-- these are the segments of steps of a position, among these all that lie in its first hexes
pub record LaidBefore (position : Position) (index : ℕ) (entries : List Entry) : Type 0 where
  pub steps : List WalkStep
  pub before : StepsBefore position steps index
  pub segments : AreSegments steps entries

-- these are the segments of all steps of a position
pub record AreLaid (position : Position) (entries : List Entry) : Type 0 where
  pub steps : List WalkStep
  pub all : AreSteps position steps
  pub segments : AreSegments steps entries
