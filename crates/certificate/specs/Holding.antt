-- Marks, by which a claim is checked without a search: one for each node of the choice tree that
-- the check walks over, in the tree's order. The mark 0 cuts a node. That is allowed if, by the
-- node's bound, no leaf below it can earn more than is claimed. The mark 1 splits it, and then the
-- marks of its children follow. A leaf is not split. Marks that hold at the root show that no leaf
-- earns more.
--
-- `Hold` is the rule, node by node. `left_over` reads marks over a list of nodes that lie ahead,
-- and computes. `Writes` is how marks are written once a revenue is known.
use Rattle.std.specs.Prelude.{◌≡◌, ◌↔◌, ℕ, ◌<◌, ◌≤◌, nat_le, Bool, true, false, if◌then◌else◌, Option, Some, None, List}
use Rattle.std.specs.Prelude.{[], ◌∷◌, ◌++◌, length}
use Rattle.std.specs.List.{AllByRecursion}
use Rattle.map_tables.specs.declared.place.Stop.{Stop}
use Rattle.reach.specs.Position.{Position, IsAmong}
use Rattle.reach.specs.Reached.{ReachesStop, AreSortedBy, stop_order}
use Rattle.tables.specs.declared.rolling_stock.Kind.{Kind}
use Rattle.tables.specs.declared.roster.Company.{Company}
use Rattle.legal_runs.specs.Claim.{ClaimHolds}
use Rattle.certificate.specs.Tree.{IsLeaf, Node, bound, children, root_of}
use Rattle.certificate.specs.Walked.{has_no_train}
use Rattle.legal_runs.specs.declared.claim.Claim.{Claim}

-- exactly the stops that a company reaches, in the order of the map
pub record AreReached (position : Position) (company : Company) (stops : List Stop) : Type 0 where
  pub exact : (stop : Stop) → IsAmong stop stops ↔ ReachesStop position company stop
  pub in_order : AreSortedBy stop_order stops

module _ (position : Position) (company : Company) (reached : List Stop) (revenue : ℕ) where
  mutual
    -- Marks hold at a node. Either the first is 0 and the bound is at most the revenue; or it is 1,
    -- trains are left, and the rest is, child by child, marks that hold.
    pub data Hold : Node → List Bool → Type 0 where
      cut : (node : Node) → bound position reached node ≤ revenue → Hold node (false ∷ [])
      split :
          (node : Node) (marks : List Bool) → ¬ IsLeaf node
          → HoldInTurn (children position company reached node) marks →
          Hold node (true ∷ marks)

    -- node by node, marks that hold
    pub data HoldInTurn : List Node → List Bool → Type 0 where
      none : HoldInTurn [] []
      more :
          (node : Node) (nodes : List Node) (marks others : List Bool) → Hold node marks → HoldInTurn nodes others →
          HoldInTurn (node ∷ nodes) (marks ++ others)

  -- What is left over of marks that are read over the nodes ahead, if those that are read hold. A
  -- cut removes the first node, and a split puts its children before the others. Once no node is
  -- left the reading ends.
  abbrev pub left_over : List Node → List Bool → Option (List Bool)
  left_over [] marks = Some marks
  left_over (node ∷ nodes) [] = None
  left_over (node ∷ nodes) (false ∷ marks) =
      if nat_le (bound position reached node) revenue then left_over nodes marks else None
  left_over (node ∷ nodes) (true ∷ marks) =
      if has_no_train node.trains then None else left_over (children position company reached node ++ nodes) marks

  -- Some marks are what is written over the nodes ahead: a node is cut if its bound is at most the
  -- revenue, and split otherwise.
  abbrev pub Writes : List Node → List Bool → Type 0
  Writes [] [] = Unit {0}
  Writes [] (mark ∷ marks) = ⊥
  Writes (node ∷ nodes) [] = ⊥
  Writes (node ∷ nodes) (false ∷ marks) = (bound position reached node ≤ revenue) × Writes nodes marks
  Writes (node ∷ nodes) (true ∷ marks) =
      (revenue < bound position reached node) × Writes (children position company reached node ++ nodes) marks

-- at most three 0 bits, which fill up a hexadecimal digit
abbrev pub AreFilling : List Bool → Type 0
AreFilling bits = (length bits ≤ 3) × AllByRecursion (λ bit. bit ≡ false) bits

-- bits are marks that hold at the root for a revenue, then at most three 0 bits
pub record AreMarks (position : Position) (company : Company) (trains : List Kind) (revenue : ℕ)
    (bits : List Bool) : Type 0 where
  pub reached : List Stop
  pub are_reached : AreReached position company reached
  pub marks : List Bool
  pub filling : List Bool
  pub parts : bits ≡ marks ++ filling
  pub hold : Hold position company reached revenue (root_of trains) marks
  pub fill : AreFilling filling

-- bits are read as marks at the root for a revenue, with at most three 0 bits left over, at the
-- stops that are reached
pub record AreReadAsMarks (position : Position) (company : Company) (trains : List Kind) (reached : List Stop)
    (revenue : ℕ) (bits : List Bool) : Type 0 where
  pub filling : List Bool
  pub left : left_over position company reached revenue (root_of trains ∷ []) bits ≡ Some filling
  pub fill : AreFilling filling

-- a claim is accepted by some bits: it holds, and they are marks for its revenue
pub record IsAcceptedClaim (position : Position) (company : Company) (trains : List Kind) (claim : Claim)
    (bits : List Bool) : Type 0 where
  pub claim_holds : ClaimHolds position company trains claim
  pub are_marks : AreMarks position company trains claim.revenue bits
