-- The choice tree of a company's best runs. A node has the runs that are assigned, the run that is
-- begun, and the trains to come. The first of these is the train in hand, whose run it is. A run
-- that is begun has a head: at a stop, or at a border, beyond which it goes on.
--
-- While no run is begun the choices are no run for this train, and then the runs that leave a
-- reached stop, by each of its links. From a border they are the links of the hex beyond at that
-- side. Such a link leads to another side whose border was not crossed, or to a reached stop that
-- is not in the run. At a stop they are first the finished run, if it has two stops and an own
-- token. Then comes each link of the stop whose border was not crossed, unless the stop is red or
-- full or the train has used up its stops. Nodes without a train are the leaves.
--
-- The bound of a node is a sum. It has what the assigned runs and the stops of the run begun earn.
-- For that run it has the greatest values of reached stops that are not in it, as many as it may
-- still visit. For each train after it, it has the greatest values of reached stops, as many as
-- that train may visit; a D may visit all.
use Rattle.std.specs.Prelude.{◌≡◌, ℕ, zero, suc, ◌+◌, ◌-◌, max, ◌==◌, nat_lt, Bool, true, false, not, ◌&&◌, ◌||◌}
use Rattle.std.specs.Prelude.{if◌then◌else◌, Option, Some, None, is_some, List, [], ◌∷◌, ◌++◌, length}
use Rattle.std.specs.List.{list_any}
use Rattle.map_tables.specs.Border.{neighbour_of}
use Rattle.map_tables.specs.Track.{end_order}
use Rattle.map_tables.specs.declared.hex.Hex.{Hex}
use Rattle.map_tables.specs.declared.hex.Hex.TheVariants.{A9, A11, I1, J2}
use Rattle.map_tables.specs.declared.place.Stop.{Stop}
use Rattle.map_tables.specs.declared.track.TrackEnd.{TrackEnd}
use Rattle.map_tables.specs.declared.track.TrackEnd.TheVariants.{Side as AtSide, Stop as AtStop}
use Rattle.map_tables.specs.declared.track.Link.{Link}
use Rattle.reach.specs.Position.{Position, IsAmong, is_red, links_of, value_of}
use Rattle.reach.specs.Walk.{across, left_at, stop_of}
use Rattle.reach.specs.declared.walk.Spot.{Spot}
use Rattle.reach.specs.declared.walk.WalkStep.{WalkStep}
use Rattle.tables.specs.Train.{same_kind, stops_of}
use Rattle.tables.specs.declared.rolling_stock.Kind.{Kind}
use Rattle.tables.specs.declared.rolling_stock.Kind.TheVariants.{Two, Three, Four, Five, Six, Diesel}
use Rattle.tables.specs.declared.roster.Company.{Company}
use Rattle.legal_runs.specs.Fault.{has_border, has_stop, has_token_at_stop, is_full}
use Rattle.legal_runs.specs.Legal.{border_at, border_of, crossed, visited, worth}
use Rattle.legal_runs.specs.Set.{TrainRun, revenue_of_runs}

-- a node of the tree: the runs assigned, the run that is begun, latest step first, and the trains
-- left
pub record Node : Type 0 where
  pub assigned : List TrainRun
  pub begun : List WalkStep
  pub trains : List Kind

-- a node with these assigned runs, this run begun and these trains
abbrev pub node_of : List TrainRun → List WalkStep → List Kind → Node
node_of assigned begun trains = record { assigned = assigned; begun = begun; trains = trains }

-- what each of some things has, one after the other
abbrev pub for_each : {A B : Type 0} → (A → List B) → List A → List B
for_each make [] = []
for_each make (thing ∷ things) = make thing ++ for_each make things

-- the trains of a kind, and those of some kinds, one kind after the other
abbrev pub of_kinds : List Kind → List Kind → List Kind
of_kinds [] trains = []
of_kinds (kind ∷ kinds) trains =
    for_each (λ train. if same_kind train kind then train ∷ [] else []) trains ++ of_kinds kinds trains

-- trains in their order: D, 6 and so on to 2
abbrev pub greatest_first : List Kind → List Kind
greatest_first trains = of_kinds (Diesel ∷ Six ∷ Five ∷ Four ∷ Three ∷ Two ∷ []) trains

-- before the first choice
abbrev pub root_of : List Kind → Node
root_of trains = node_of [] [] (greatest_first trains)

-- the step into a link at one of its ends
abbrev pub steps_by : TrackEnd → Link → List WalkStep
steps_by end link = if end_order link.a == end_order end then record { link = link; turned = false } ∷ [] else
    (if end_order link.b == end_order end then record { link = link; turned = true } ∷ [] else [])

-- the steps that enter a link at an end in a hex, in the order of the links
abbrev pub steps_at : Position → Hex → TrackEnd → List WalkStep
steps_at position hex end = for_each (steps_by end) (links_of position hex)

-- the hexes in which a stop lies
abbrev pub hexes_of : Hex → List Hex
hexes_of J2 = I1 ∷ J2 ∷ []
hexes_of A11 = A9 ∷ A11 ∷ []
hexes_of hex = hex ∷ []

-- the steps that leave a stop
abbrev pub steps_from : Position → Stop → List WalkStep
steps_from position stop = for_each (λ hex. steps_at position hex (AtStop stop.number)) (hexes_of stop.hex)

-- the borders that some runs cross
abbrev pub run_borders : List TrainRun → List ℕ
run_borders [] = []
run_borders (run ∷ runs) = crossed run.steps ++ run_borders runs

-- the borders that a run has crossed, with the one at which its head is
abbrev pub gone_over : List WalkStep → List ℕ
gone_over [] = []
gone_over (step ∷ before) = border_at (left_at step).hex (left_at step).end ++ crossed (step ∷ before)

-- the borders that were crossed
abbrev pub taken_borders : Node → List ℕ
taken_borders node = gone_over node.begun ++ run_borders node.assigned

-- an end of a hex is a side at a border that was not crossed
abbrev pub is_free_end : List ℕ → Hex → TrackEnd → Bool
is_free_end borders hex (AtSide side) = is_some (neighbour_of hex side) && not (has_border (border_of hex side) borders)
is_free_end borders hex (AtStop number) = false

-- a step leads over such a border
abbrev pub goes_over : List ℕ → WalkStep → Bool
goes_over borders step = is_free_end borders (left_at step).hex (left_at step).end

-- a stop is reached, and not in a run
abbrev pub is_new_stop : List Stop → List Stop → Option Stop → Bool
is_new_stop reached stops (Some stop) = has_stop stop reached && not (has_stop stop stops)
is_new_stop reached stops None = false

-- a step leads to such a stop, or over a border that was not crossed
abbrev pub leads_on : List Stop → Node → WalkStep → Bool
leads_on reached node step =
    is_new_stop reached (visited node.begun) (stop_of (left_at step)) || goes_over (taken_borders node) step

-- with one more step of the run
abbrev pub with_step : Node → WalkStep → Node
with_step node step = node_of node.assigned (step ∷ node.begun) node.trains

-- a node, if a test passes
abbrev pub node_if : Bool → Node → List Node
node_if true node = node ∷ []
node_if false node = []

-- each step that passes a test
abbrev pub with_steps : (WalkStep → Bool) → Node → List WalkStep → List Node
with_steps test node steps = for_each (λ step. node_if (test step) (with_step node step)) steps

-- a train has used up its stops
abbrev pub is_used_up : Option ℕ → ℕ → Bool
is_used_up (Some most) count = not (nat_lt count most)
is_used_up None count = false

module _ (position : Position) (company : Company) (reached : List Stop) where
  -- no run is begun
  abbrev pub setting_out : Node → List Node
  setting_out node = with_steps (goes_over (taken_borders node)) node (for_each (steps_from position) reached)

  -- the run is finished, if it has two stops and an own token
  abbrev pub is_finished : List Stop → Bool
  is_finished stops = not (nat_lt (length stops) 2) && list_any (has_token_at_stop position company) stops

  -- the choice to finish the run that is begun, if it may be finished
  abbrev pub finishing : Node → Kind → List Kind → List Node
  finishing node kind later =
      node_if (is_finished (visited node.begun)) (node_of (record { kind = kind; steps = node.begun } ∷ node.assigned)
      [] later)

  -- no run goes on from a stop
  abbrev pub is_last_stop : Node → Kind → Stop → Bool
  is_last_stop node kind stop = is_red position stop || (is_full position company stop
      || is_used_up (stops_of kind) (length (visited node.begun)))

  -- the choices to go on from a stop, unless the run must end there
  abbrev pub from_stop : Node → Kind → Stop → List Node
  from_stop node kind stop =
      if is_last_stop node kind stop then [] else with_steps (goes_over (taken_borders node)) node
      (steps_from position stop)

  -- the head is at a border
  abbrev pub from_border : Node → Option Spot → List Node
  from_border node None = []
  from_border node (Some spot) = with_steps (leads_on reached node) node (steps_at position spot.hex spot.end)

  -- the head is at a stop, or at a border
  abbrev pub from_head : Node → Kind → List Kind → Spot → Option Stop → List Node
  from_head node kind later head (Some stop) = finishing node kind later ++ from_stop node kind stop
  from_head node kind later head None = from_border node (across head)

  -- the choices at a node, in order
  abbrev pub choices_at : List TrainRun → List WalkStep → List Kind → List Node
  choices_at assigned begun [] = []
  choices_at assigned [] (kind ∷ later) = node_of assigned [] later ∷ setting_out (node_of assigned [] (kind ∷ later))
  choices_at assigned (step ∷ before) (kind ∷ later) =
      from_head (node_of assigned (step ∷ before) (kind ∷ later)) kind later (left_at step) (stop_of (left_at step))

  -- the children of a node, in order
  abbrev pub children : Node → List Node
  children node = choices_at node.assigned node.begun node.trains

  -- a path down the tree: its nodes, the latest first, each a child of the one before; and where it
  -- ends
  abbrev pub end_of : Node → List Node → Node
  end_of start [] = start
  end_of start (node ∷ before) = node

  abbrev pub IsWayDown : Node → List Node → Type 0
  IsWayDown start [] = Unit {0}
  IsWayDown start (node ∷ before) = IsAmong node (children (end_of start before)) × IsWayDown start before

  -- a node is another, or below it
  abbrev pub IsBelow : Node → Node → Type 0
  IsBelow start node = (nodes : List Node) × IsWayDown start nodes × (end_of start nodes ≡ node)

-- a node without a train
abbrev pub IsLeaf : Node → Type 0
IsLeaf node = node.trains ≡ []

-- the sum of this many of some values, the greatest ones
abbrev pub greatest_sum : ℕ → List ℕ → ℕ
greatest_sum zero values = 0
greatest_sum (suc count) [] = 0
greatest_sum (suc count) (value ∷ values) = max (value + greatest_sum count values) (greatest_sum (suc count) values)

-- the sum of some values
abbrev pub total : List ℕ → ℕ
total [] = 0
total (value ∷ values) = value + total values

-- the sum of the greatest of some values, as many as a train may visit that has visited this many
-- stops
abbrev pub still_to_come : Option ℕ → ℕ → List ℕ → ℕ
still_to_come (Some most) count values = greatest_sum (most - count) values
still_to_come None count values = total values

-- the values of reached stops that are not among some
abbrev pub new_values : Position → List Stop → List Stop → List ℕ
new_values position stops [] = []
new_values position stops (stop ∷ reached) =
    if has_stop stop stops then new_values position stops reached else value_of position stop
    ∷ new_values position stops reached

-- what a train that has visited these stops may still earn at others
abbrev pub may_earn : Position → List Stop → Kind → List Stop → ℕ
may_earn position reached kind stops = still_to_come (stops_of kind) (length stops) (new_values position stops reached)

-- what trains may earn that have not begun
abbrev pub may_all_earn : Position → List Stop → List Kind → ℕ
may_all_earn position reached [] = 0
may_all_earn position reached (kind ∷ later) = may_earn position reached kind [] + may_all_earn position reached later

-- what a train in hand earns and may earn, and those after it
abbrev pub may_come : Position → List Stop → List WalkStep → List Kind → ℕ
may_come position reached begun [] = 0
may_come position reached begun (kind ∷ later) =
    worth position (visited begun) + (may_earn position reached kind (visited begun)
    + may_all_earn position reached later)

-- the bound of a node
abbrev pub bound : Position → List Stop → Node → ℕ
bound position reached node = revenue_of_runs position node.assigned + may_come position reached node.begun node.trains
