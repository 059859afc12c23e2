-- A walk over the choice tree: over the nodes that lie ahead, in order. At each node a decider gets
-- the node's bound and whether it is a leaf. It cuts the node; or it splits it, and then its
-- children lie ahead before all others; or it ends the walk. The walk reaches its end once no node
-- is left.
use Rattle.std.specs.Prelude.{ℕ, min, Bool, true, false, List, [], ◌∷◌, ◌++◌}
use Rattle.map_tables.specs.declared.place.Stop.{Stop}
use Rattle.reach.specs.Position.{Position}
use Rattle.tables.specs.declared.roster.Company.{Company}
use Rattle.tables.specs.declared.rolling_stock.Kind.{Kind}
use Rattle.certificate.specs.Tree.{Node, bound, children}
use Rattle.certificate.specs.declared.decider.Decision.{Decision}
use Rattle.certificate.specs.declared.decider.Decision.TheVariants.{Cut, Split, Stop as End}

-- a sum that is too great for an amount is the greatest amount
abbrev pub capped : ℕ → ℕ
capped sum = min sum 18446744073709551615

-- there is no train
abbrev pub has_no_train : List Kind → Bool
has_no_train [] = true
has_no_train (kind ∷ later) = false

module _ {S : Type 0} (decides : S → ℕ → Bool → Decision → S → Type 0) (position : Position) (company : Company)
    (reached : List Stop) where
  -- a walk over some nodes, from the decider's value before it, whether it reaches its end, and the
  -- value after it
  pub data Walks : S → List Node → Bool → S → Type 0 where
    at_end : (s : S) → Walks s [] true s
    cuts :
        (s t u : S) (node : Node) (nodes : List Node) (whole : Bool) →
        decides s (capped (bound position reached node)) (has_no_train node.trains) Cut t →
        Walks t nodes whole u → Walks s (node ∷ nodes) whole u
    splits :
        (s t u : S) (node : Node) (nodes : List Node) (whole : Bool) →
        decides s (capped (bound position reached node)) (has_no_train node.trains) Split t →
        Walks t (children position company reached node ++ nodes) whole u → Walks s (node ∷ nodes) whole u
    ends :
        (s t : S) (node : Node) (nodes : List Node) →
        decides s (capped (bound position reached node)) (has_no_train node.trains) End t
        → Walks s (node ∷ nodes) false t

  -- whatever a walk makes of the nodes that are left, it makes of all nodes
  abbrev pub LeavesAhead : S → List Node → S → List Node → Type 0
  LeavesAhead s all t rest = (whole : Bool) (u : S) → Walks t rest whole u → Walks s all whole u
