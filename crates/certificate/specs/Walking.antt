-- Where a walk over the choice tree is, by what it keeps in place. It keeps marks of the borders
-- that were crossed and of the stops that the run begun has visited, and a few numbers. `IsOnRun`
-- joins these to the assigned runs and the steps of the run begun, which no code keeps.
use Rattle.std.specs.Prelude.{◌≡◌, ℕ, zero, suc, ◌+◌, ◌-◌, ◌*◌, ◌≤◌, nat_lt, ◌==◌, Bool, false, if◌then◌else◌, Option}
use Rattle.std.specs.Prelude.{Some, None, option_map, List, [], ◌∷◌, ◌++◌, length, drop, get_or, replicate}
use Rattle.std.specs.List.{list_any}
use Rattle.map_tables.specs.Place.{joined_stop_of}
use Rattle.map_tables.specs.declared.place.Stop.{Stop}
use Rattle.map_tables.specs.declared.side.Side.{Side}
use Rattle.map_tables.specs.declared.track.TrackEnd.{TrackEnd}
use Rattle.map_tables.specs.declared.track.TrackEnd.TheVariants.{Side as AtSide, Stop as AtStop}
use Rattle.reach.specs.Lawful.{IsLawful}
use Rattle.reach.specs.Position.{Position, IsAmong}
use Rattle.reach.specs.Reached.{map_stops, stop_order}
use Rattle.reach.specs.Walk.{entered_at, left_at, stop_of}
use Rattle.reach.specs.declared.walk.WalkStep.{WalkStep}
use Rattle.tables.specs.Train.{stops_of}
use Rattle.tables.specs.declared.rolling_stock.Kind.{Kind}
use Rattle.legal_runs.specs.Fault.{has_border, has_stop, has_token_at_stop}
use Rattle.legal_runs.specs.Legal.{border_at, listed, map_borders, visited, worth}
use Rattle.certificate.specs.Ranking.{ranked_of}
use Rattle.legal_runs.specs.Set.{TrainRun, revenue_of_runs}
use Rattle.certificate.specs.HexLinks.{AreHexLinks}
use Rattle.certificate.specs.KnownStops.{AreKnown}
use Rattle.certificate.specs.Tree.{Node, goes_over, gone_over, leads_on, may_all_earn, may_earn, node_of, run_borders}
use Rattle.certificate.specs.Tree.{setting_out, taken_borders}
use Rattle.certificate.specs.Walked.{LeavesAhead, Walks, capped}
use Rattle.certificate.specs.declared.decider.Decision.{Decision}
use Rattle.certificate.specs.declared.tree.Group.{Group}
use Rattle.certificate.specs.declared.tree.Tree.{Tree}
use Rattle.certificate.specs.declared.tree_walk.Begun.{Begun}

-- the marks of borders are those of these
abbrev pub AreCrossed : List Bool → List ℕ → Type 0
AreCrossed marks borders =
    (length marks ≡ map_borders) × ((border : ℕ) → get_or marks border false ≡ has_border border borders)

-- the marks of stops, by their places in the order of the map, are those of these
abbrev pub AreVisited : List Bool → List Stop → Type 0
AreVisited marks stops =
    (length marks ≡ map_stops) × ((stop : Stop) → get_or marks (stop_order stop) false ≡ has_stop stop stops)

-- the trains of some groups, one group after the other
abbrev pub trains_in : List Group → List Kind
trains_in [] = []
trains_in (group ∷ groups) = replicate group.count group.kind ++ trains_in groups

-- the kind of the train at a place
abbrev pub kind_from : List Group → ℕ → Option Kind
kind_from [] place = None
kind_from (group ∷ groups) place =
    if nat_lt place group.count then Some group.kind else kind_from groups (place - group.count)

-- what the trains from a place on may earn
abbrev pub earned_from : List Group → ℕ → ℕ
earned_from [] place = 0
earned_from (group ∷ groups) place = (group.count - place) * group.may_earn + earned_from groups (place - group.count)

-- how many stops a run may still visit that has visited this many
abbrev pub still_left : Option ℕ → ℕ → Option ℕ
still_left most count = option_map (λ n. n - count) most

-- no stop is left
abbrev pub is_none_left : Option ℕ → Bool
is_none_left (Some left) = left == 0
is_none_left None = false

-- the stops that are reached, and the trains in their order
abbrev pub reached_in : Tree → List Stop
reached_in tree = tree.reached

abbrev pub trains_of_tree : Tree → List Kind
trains_of_tree tree = trains_in tree.groups

-- each group has what a train of it may earn
abbrev pub HaveEarnings : Position → List Stop → List Group → Type 0
HaveEarnings position reached [] = Unit {0}
HaveEarnings position reached (group ∷ groups) =
    (group.may_earn ≡ may_earn position reached group.kind []) × HaveEarnings position reached groups

-- what a walk has of the tree is so at a position
pub record IsTree (position : Position) (tree : Tree) : Type 0 where
  pub lawful : IsLawful position
  pub named : (stop : Stop) → IsAmong stop (reached_in tree) → joined_stop_of stop ≡ stop
  pub earnings : HaveEarnings position (reached_in tree) tree.groups
  pub count : tree.count ≡ length (trains_of_tree tree)
  pub fits : length (trains_of_tree tree) ≤ 18446744073709551615
  pub ranking : tree.ranking ≡ ranked_of position (reached_in tree)
  pub links : AreHexLinks position tree.links
  pub known : AreKnown position tree.company tree.known

-- no run is begun, and the assigned runs earn this much
pub record IsBetweenRuns (position : Position) (tree : Tree) (value : ℕ) (assigned : List TrainRun) : Type 0 where
  pub tree_is : IsTree position tree
  pub earns : value ≡ capped (revenue_of_runs position assigned)

-- a run is begun that has visited these stops, the first of them also before its first step
pub record IsOnRun (position : Position) (tree : Tree) (begun : Begun) (used marks : List Bool)
    (assigned : List TrainRun) (steps : List WalkStep) (stops : List Stop) : Type 0 where
  pub tree_is : IsTree position tree
  pub crossed : AreCrossed used (gone_over steps ++ run_borders assigned)
  pub seen : AreVisited marks stops
  pub some : 1 ≤ length stops
  pub value : begun.value ≡ capped (revenue_of_runs position assigned + worth position stops)
  pub later : begun.later ≡ capped (may_all_earn position (reached_in tree) (drop begun.next (trains_of_tree tree)))
  pub within : begun.next ≤ length (trains_of_tree tree)
  pub left : begun.left ≡ still_left (stops_of begun.kind) (length stops)
  pub own : begun.own_token ≡ list_any (has_token_at_stop position tree.company) stops

-- a step goes on from these steps, which have visited these stops
pub record Continues (steps : List WalkStep) (stops : List Stop) (step : WalkStep) : Type 0 where
  pub visits : visited (step ∷ steps) ≡ listed (stop_of (left_at step)) ++ stops
  pub crosses : gone_over (step ∷ steps) ≡ border_at (left_at step).hex (left_at step).end ++ gone_over steps
  pub same : (side : Side) → (entered_at step).end ≡ AtSide side → visited steps ≡ stops

-- the node there
abbrev pub node_at : Tree → Begun → List TrainRun → List WalkStep → Node
node_at tree begun assigned steps = node_of assigned steps (begun.kind ∷ drop begun.next (trains_of_tree tree))

-- the node at which the trains from a place on have not begun
abbrev pub node_from : Tree → List TrainRun → ℕ → Node
node_from tree assigned place = node_of assigned [] (drop place (trains_of_tree tree))

-- a step may be taken that is entered at an end: from a border or from a stop
abbrev pub may_take : List Stop → Node → TrackEnd → WalkStep → Bool
may_take reached node (AtSide side) step = leads_on reached node step
may_take reached node (AtStop number) step = goes_over (taken_borders node) step

-- the nodes at which the trains have set out from a place on, this many of them, the last train
-- first
abbrev pub set_outs : Position → Tree → List TrainRun → ℕ → ℕ → List Node
set_outs position tree assigned first zero = []
set_outs position tree assigned first (suc count) =
    setting_out position tree.company (reached_in tree) (node_from tree assigned (first + count))
    ++ set_outs position tree assigned first count

module _ {S : Type 0} (decides : S → ℕ → Bool → Decision → S → Type 0) (position : Position) (tree : Tree) where
  -- a walk over nodes of the tree
  abbrev pub WalksOver : S → List Node → Bool → S → Type 0
  WalksOver s nodes whole t = Walks decides position tree.company (reached_in tree) s nodes whole t

  abbrev pub LeavesOver : S → List Node → S → List Node → Type 0
  LeavesOver s all t rest = LeavesAhead decides position tree.company (reached_in tree) s all t rest

  -- how far a walk comes over the nodes at which no run is begun, each the first child of the one
  -- before
  abbrev pub Descends : List TrainRun → ℕ → S → Option ℕ → S → Type 0
  Descends assigned first s None t = WalksOver s (node_from tree assigned first ∷ []) false t
  Descends assigned first s (Some deepest) t =
      (first ≤ deepest) × (deepest ≤ length (trains_of_tree tree))
      × LeavesOver s (node_from tree assigned first ∷ []) t (set_outs position tree assigned first (deepest - first))
