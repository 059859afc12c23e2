-- Down the tree what holds at a node keeps holding, and the bound never grows. So the assigned runs
-- of a leaf are a legal set, which earns no more than the bound of any node above it.
use Rattle.std.proofs.Common.{◌≡◌, ◌+◌, ◌≤◌, inl, inr, if◌then◌else◌, List, [], ◌∷◌, ◌++◌, refl, ap, subst, arith}
use Rattle.map_tables.specs.Place.{joined_stop_of}
use Rattle.map_tables.specs.declared.place.Stop.{Stop}
use Rattle.reach.specs.Lawful.{IsLawful}
use Rattle.reach.specs.Position.{Position, IsAmong}
use Rattle.reach.specs.Reached.{IsReach, Reaching, ReachesStop}
use Rattle.reach.specs.Walk.{TouchesStop, entered_at, left_at}
use Rattle.reach.specs.declared.walk.WalkStep.{WalkStep}
use Rattle.reach.proofs.Spots.{names_itself}
use Rattle.tables.specs.Train.{same_kind}
use Rattle.tables.specs.declared.rolling_stock.Kind.{Kind}
use Rattle.tables.specs.declared.rolling_stock.Kind.TheVariants.{Two, Three, Four, Five, Six, Diesel}
use Rattle.tables.specs.declared.roster.Company.{Company}
use Rattle.legal_runs.specs.Set.{IsLegalSet, in_number, revenue_of_runs}
use Rattle.certificate.specs.Tree.{IsBelow, IsWayDown, Node, bound, end_of, for_each, greatest_first, may_come, root_of}
use Rattle.certificate.specs.TreeLaws.{BoundsFall, IsInTree, LeavesAreLegalSets, LeavesEarnTheirBounds, NoLeafEarnsMore}
use Rattle.certificate.proofs.Nodes.{IsGoodChoice, IsGoodNode, choice_good, none_begun}

-- the trains of one kind
abbrev only : Kind → List Kind → List Kind
only kind trains = for_each (λ train. if same_kind train kind then train ∷ [] else []) trains

number_both : (kind : Kind) (first second : List Kind)
    → in_number kind (first ++ second) ≡ in_number kind first + in_number kind second
number_both kind [] second = omega arith
number_both kind (train ∷ first) second = omega (arith, number_both kind first second)

kind_by_kind :
    (k : Kind) (trains : List Kind) →
    in_number k (only Diesel trains) + (in_number k (only Six trains)
    + (in_number k (only Five trains) + (in_number k (only Four trains)
    + (in_number k (only Three trains) + in_number k (only Two trains))))) ≡ in_number k trains
kind_by_kind k [] = refl
kind_by_kind k (Two ∷ trains) = omega (arith, kind_by_kind k trains)
kind_by_kind k (Three ∷ trains) = omega (arith, kind_by_kind k trains)
kind_by_kind k (Four ∷ trains) = omega (arith, kind_by_kind k trains)
kind_by_kind k (Five ∷ trains) = omega (arith, kind_by_kind k trains)
kind_by_kind k (Six ∷ trains) = omega (arith, kind_by_kind k trains)
kind_by_kind k (Diesel ∷ trains) = omega (arith, kind_by_kind k trains)

-- in their order trains are as many of each kind
pub same_number : (k : Kind) (trains : List Kind) → in_number k (greatest_first trains) ≡ in_number k trains
same_number k trains =
    let two = number_both k (only Two trains) [] in
    let three = number_both k (only Three trains) (only Two trains ++ []) in
    let four = number_both k (only Four trains) (only Three trains ++ (only Two trains ++ [])) in
    let five = number_both k (only Five trains) (only Four trains ++ (only Three trains ++ (only Two trains ++ []))) in
    let six = number_both k (only Six trains) (only Five trains
    ++ (only Four trains ++ (only Three trains ++ (only Two trains ++ [])))) in
    let diesel = number_both k (only Diesel trains)
    (only Six trains ++ (only Five trains ++ (only Four trains
    ++ (only Three trains ++ (only Two trains ++ []))))) in
    omega (arith, two, three, four, five, six, diesel, kind_by_kind k trains)

-- a stop that is touched has its own name
touched_named : (stop : Stop) (steps : List WalkStep) → TouchesStop stop steps → joined_stop_of stop ≡ stop
touched_named stop [] touches = absurd touches
touched_named stop (step ∷ before) (inl (inl is)) = names_itself (entered_at step) stop is
touched_named stop (step ∷ before) (inl (inr is)) = names_itself (left_at step) stop is
touched_named stop (step ∷ before) (inr touches) = touched_named stop before touches

pub reached_named : (position : Position) (company : Company) (stop : Stop) → ReachesStop position company stop
    → joined_stop_of stop ≡ stop
reached_named position company stop (inl own) = own.0
reached_named position company stop (inr walk) = touched_named stop walk.0 walk.2

-- so do all stops that are reached
pub all_named :
    (position : Position) (company : Company) (reach : Reaching) → IsReach position company reach → (stop : Stop)
    → IsAmong stop reach.stops →
    joined_stop_of stop ≡ stop
all_named position company reach is stop among = reached_named position company stop ((is.stops stop).0 among)

module _ (position : Position) (lawful : IsLawful position) (company : Company) (reached : List Stop)
    (named : (stop : Stop) → IsAmong stop reached → joined_stop_of stop ≡ stop) (all : List Kind) where
  pub good_down :
      (start : Node) → IsGoodNode position company all start → (nodes : List Node)
      → IsWayDown position company reached start nodes →
      IsGoodNode position company all (end_of position company reached start nodes)
      × (bound position reached (end_of position company reached start nodes) ≤ bound position reached start)
  good_down start good [] way = (good, omega arith)
  good_down start good (node ∷ before) way =
      let above = good_down start good before way.1 in
      let last : Node = end_of position company reached start before in
      let choice : IsGoodChoice position lawful company reached named all last.assigned last.begun last.trains node =
      choice_good position lawful company reached named all last.assigned last.begun last.trains above.0 node
      way.0 in
      (choice.good, let falls = choice.falls in let over = above.1 in omega arith)

  pub root_good : IsGoodNode position company all (root_of all)
  root_good =
      record {
        legal = tt;
        apart = tt;
        taken = λ k. omega (arith, same_number k all);
        in_hand = none_begun position company [] (greatest_first all);
      }

  pub good_below :
      (start node : Node) → IsGoodNode position company all start → IsBelow position company reached start node →
      IsGoodNode position company all node × (bound position reached node ≤ bound position reached start)
  good_below start node good below =
      subst (λ (n : Node). IsGoodNode position company all n
      × (bound position reached n ≤ bound position reached start)) below.2 (good_down start good below.0 below.1)

-- what holds at each node of the tree
good_in_tree :
    (position : Position) (company : Company) (trains : List Kind) (reach : Reaching) (node : Node)
    → IsLawful position →
    IsReach position company reach → IsInTree position company trains reach node
    → IsGoodNode position company trains node
good_in_tree position company trains reach node lawful is there =
    let named = all_named position company reach is in
    (good_below position lawful company reach.stops named trains (root_of trains) node
    (root_good position lawful company reach.stops named trains) there).0

pub bounds_fall : BoundsFall
bounds_fall position company trains reach node child lawful is there among =
    let good = good_in_tree position company trains reach node lawful is there in
    let choice : IsGoodChoice position lawful company reach.stops (all_named position company reach is) trains
    node.assigned node.begun node.trains child = choice_good position lawful company reach.stops
    (all_named position company reach is) trains node.assigned node.begun node.trains good child among in
    choice.falls

pub leaves_earn : LeavesEarnTheirBounds
leaves_earn position reach node leaf =
    let none : may_come position reach.stops node.begun node.trains ≡ 0 =
    ap (may_come position reach.stops node.begun) leaf in omega arith

pub no_leaf_more : NoLeafEarnsMore
no_leaf_more position company trains reach node leaf lawful is there below none =
    let good = good_in_tree position company trains reach node lawful is there in
    let under = good_below position lawful company reach.stops (all_named position company reach is) trains node leaf
    good below in
    let earns : bound position reach.stops leaf ≡ revenue_of_runs position leaf.assigned =
    leaves_earn position reach leaf none in
    let falls = under.1 in omega arith

-- the assigned runs of a node are a legal set
pub good_set : (position : Position) (company : Company) (trains : List Kind) (node : Node)
    → IsGoodNode position company trains node → IsLegalSet position company trains node.assigned
good_set position company trains node good = record
    { legal = good.legal; each_once = λ k. omega (arith, good.taken k); apart = good.apart }

pub leaves_legal : LeavesAreLegalSets
leaves_legal position company trains reach leaf lawful is there none =
    good_set position company trains leaf (good_in_tree position company trains reach leaf lawful is there)
