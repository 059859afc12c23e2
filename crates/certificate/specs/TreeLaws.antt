-- What joins the choice tree to the legal sets. Each leaf's assigned runs are a legal set for the
-- trains. Each legal set is that of a leaf, at whichever of its stops a run begins, wherever its
-- own tokens are, and however far a D goes. No node has a child with a greater bound, and a leaf's
-- bound is what it earns. So no leaf below a node earns more than the node's bound.
use Rattle.std.specs.Prelude.{◌≡◌, ◌↔◌, ◌≤◌, List}
use Rattle.reach.specs.Lawful.{IsLawful}
use Rattle.reach.specs.Position.{Position, IsAmong}
use Rattle.reach.specs.Reached.{IsReach, Reaching}
use Rattle.tables.specs.declared.rolling_stock.Kind.{Kind}
use Rattle.tables.specs.declared.roster.Company.{Company}
use Rattle.legal_runs.specs.Set.{IsLegalSet, TrainRun, revenue_of_runs}
use Rattle.certificate.specs.Tree.{IsBelow, IsLeaf, Node, bound, children, root_of}

-- a node is in the tree of a company's trains, given what the company reaches
abbrev pub IsInTree : Position → Company → List Kind → Reaching → Node → Type 0
IsInTree position company trains reach node = IsBelow position company reach.stops (root_of trains) node

-- no child's bound exceeds its node's
abbrev pub BoundsFall : Type 0
BoundsFall =
    (position : Position) (company : Company) (trains : List Kind) (reach : Reaching) (node child : Node) →
    IsLawful position → IsReach position company reach → IsInTree position company trains reach node →
    IsAmong child (children position company reach.stops node) →
    bound position reach.stops child ≤ bound position reach.stops node

-- a leaf's bound is what it earns
abbrev pub LeavesEarnTheirBounds : Type 0
LeavesEarnTheirBounds =
    (position : Position) (reach : Reaching) (node : Node) →
    IsLeaf node → bound position reach.stops node ≡ revenue_of_runs position node.assigned

-- no leaf below a node earns more than the node's bound
abbrev pub NoLeafEarnsMore : Type 0
NoLeafEarnsMore =
    (position : Position) (company : Company) (trains : List Kind) (reach : Reaching) (node leaf : Node) →
    IsLawful position → IsReach position company reach → IsInTree position company trains reach node →
    IsBelow position company reach.stops node leaf → IsLeaf leaf →
    revenue_of_runs position leaf.assigned ≤ bound position reach.stops node

-- each leaf's assigned runs are a legal set
abbrev pub LeavesAreLegalSets : Type 0
LeavesAreLegalSets =
    (position : Position) (company : Company) (trains : List Kind) (reach : Reaching) (leaf : Node) →
    IsLawful position → IsReach position company reach → IsInTree position company trains reach leaf → IsLeaf leaf →
    IsLegalSet position company trains leaf.assigned

-- two lists of runs are the same runs, and earn as much
pub record AreItsRuns (position : Position) (assigned runs : List TrainRun) : Type 0 where
  pub same : (run : TrainRun) → IsAmong run assigned ↔ IsAmong run runs
  pub earn_same : revenue_of_runs position assigned ≡ revenue_of_runs position runs

-- each legal set is the assigned runs of a leaf
abbrev pub LegalSetsAreLeaves : Type 0
LegalSetsAreLeaves =
    (position : Position) (company : Company) (trains : List Kind) (reach : Reaching) (runs : List TrainRun) →
    IsLawful position → IsReach position company reach → IsLegalSet position company trains runs →
    (leaf : Node) × IsInTree position company trains reach leaf × IsLeaf leaf × AreItsRuns position leaf.assigned runs
