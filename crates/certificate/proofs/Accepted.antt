-- A claim that is accepted has the greatest revenue. A leaf below a node at which marks hold earns
-- no more than is claimed, and each legal set is the runs of a leaf.
use Rattle.std.proofs.Common.{◌≡◌, ℕ, ◌<◌, ◌≤◌, Bool, true, false, ◌⊎◌, inl, inr, Some, List, [], ◌∷◌, ◌++◌, append-nil}
use Rattle.std.proofs.Common.{refl, ap, sym, ◌∙◌, subst, arith}
use Rattle.std.specs.List.{AllByRecursion}
use Rattle.map_tables.specs.Place.{joined_stop_of}
use Rattle.map_tables.specs.declared.place.Stop.{Stop}
use Rattle.reach.specs.Lawful.{IsLawful}
use Rattle.reach.specs.Position.{Position, IsAmong}
use Rattle.reach.specs.Reached.{AreSortedBy, stop_order}
use Rattle.tables.specs.declared.rolling_stock.Kind.{Kind}
use Rattle.tables.specs.declared.roster.Company.{Company}
use Rattle.certificate.specs.Holding.{AreMarks, AreReached, Hold, HoldInTurn, Writes, cut, left_over, more, none, split}
use Rattle.certificate.specs.HoldingLaws.{AcceptedIsGreatest, MarksAreRead, WrittenMarksHold}
use Rattle.legal_runs.specs.Set.{IsLegalSet, TrainRun, revenue_of_runs}
use Rattle.certificate.specs.Tree.{IsBelow, IsLeaf, IsWayDown, Node, bound, children, may_come, root_of}
use Rattle.certificate.proofs.Holding.{held_at, read_cut, read_split, read_whole}
use Rattle.certificate.proofs.Leaves.{good_below, good_set, reached_named, root_good}
use Rattle.legal_runs.proofs.Marks.{among_both}
use Rattle.certificate.proofs.Nodes.{IsGoodChoice, IsGoodNode, choice_good}
use Rattle.certificate.proofs.SetBelow.{set_is_leaf}

-- a list in order is known by what is among it
module _ {A : Type 0} (order : A → ℕ) where
  earlier : (thing other : A) (things : List A) → AllByRecursion (λ (next : A). order thing < order next) things
      → IsAmong other things → order thing < order other
  earlier thing other [] later among = absurd among
  earlier thing other (next ∷ things) later (inl is) = subst (λ (n : A). order thing < order n) is later.0
  earlier thing other (next ∷ things) later (inr among) = earlier thing other things later.1 among

  first_is :
      (thing other : A) (things others : List A) → AreSortedBy order (thing ∷ things)
      → AreSortedBy order (other ∷ others) →
      IsAmong thing (other ∷ others) → IsAmong other (thing ∷ things) → thing ≡ other
  first_is thing other things others first second (inl is) among = sym is
  first_is thing other things others first second (inr later) (inl is) = is
  first_is thing other things others first second (inr later) (inr before) =
      let up : order thing < order other = earlier thing other things first.0 before in
      let down : order other < order thing = earlier other thing others second.0 later in
      absurd (omega arith)

  without_first :
      (thing : A) (things others : List A) → AreSortedBy order (thing ∷ things) →
      ((one : A) → IsAmong one (thing ∷ things) → IsAmong one (thing ∷ others)) → (one : A) → IsAmong one things
      → IsAmong one others
  without_first thing things others first each one among =
      let up : order thing < order one = earlier thing one things first.0 among in
      elim (each one (inr among)) [
        | inl is ↦ let same : order thing ≡ order one = ap order is in absurd (omega arith)
        | inr later ↦ later
      ]

  pub one_order :
      (things others : List A) → AreSortedBy order things → AreSortedBy order others →
      ((one : A) → IsAmong one things → IsAmong one others) → ((one : A) → IsAmong one others → IsAmong one things)
      → things ≡ others
  one_order [] [] first second each back = refl
  one_order [] (other ∷ others) first second each back = absurd (back other (inl refl))
  one_order (thing ∷ things) [] first second each back = absurd (each thing (inl refl))
  one_order (thing ∷ things) (other ∷ others) first second each back =
      with_first (first_is thing other things others first second (each thing (inl refl)) (back other (inl refl)))
      (one_order things others first.1 second.1)
    where
      with_first :
          thing ≡ other →
          (((one : A) → IsAmong one things → IsAmong one others)
          → ((one : A) → IsAmong one others → IsAmong one things) → things ≡ others) →
          thing ∷ things ≡ other ∷ others
      with_first is rest =
          let along : (one : A) → IsAmong one (thing ∷ things) → IsAmong one (thing ∷ others) =
          subst (λ (o : A). (one : A) → IsAmong one (thing ∷ things) → IsAmong one (o ∷ others)) (sym is) each in
          let against : (one : A) → IsAmong one (other ∷ others) → IsAmong one (other ∷ things) =
          subst (λ (t : A). (one : A) → IsAmong one (other ∷ others) → IsAmong one (t ∷ things)) is back in
          let tails : things ≡ others = rest (without_first thing things others first along)
          (without_first other others things second against) in
          cc

pub reached_once :
    (position : Position) (company : Company) (reached others : List Stop) → AreReached position company reached
    → AreReached position company others →
    reached ≡ others
reached_once position company reached others these those =
    one_order stop_order reached others these.in_order those.in_order
    (λ stop among. (those.exact stop).1 ((these.exact stop).0 among))
    (λ stop among. (these.exact stop).1 ((those.exact stop).0 among))

pub marks_are_read : MarksAreRead
marks_are_read position company trains reached revenue bits are_reached = (
  λ are.
      let same : are.reached ≡ reached = reached_once position company are.reached reached are.are_reached
      are_reached in
      let hold : Hold position company reached revenue (root_of trains) are.marks =
      subst (λ (r : List Stop). Hold position company r revenue (root_of trains) are.marks) same are.hold in
      record {
        filling = are.filling;
        left =
            ap (left_over position company reached revenue (root_of trains ∷ [])) are.parts
            ∙ read_whole position company reached revenue (root_of trains) are.marks are.filling hold;
        fill = are.fill;
      },
  λ are.
      let found = held_at position company reached revenue (root_of trains) bits are.filling are.left in
      record {
        reached = reached;
        are_reached = are_reached;
        marks = found.0;
        filling = are.filling;
        parts = found.1;
        hold = found.2;
        fill = are.fill;
      },
)

-- what is below a node is the node, or below one of its children
module _ (position : Position) (company : Company) (reached : List Stop) where
  abbrev AreBelow : Node → Node → Type 0
  AreBelow start node = (child : Node) × IsAmong child (children position company reached start)
      × IsBelow position company reached child node

  first_child : (start node : Node) (before : List Node) → IsWayDown position company reached start (node ∷ before)
      → AreBelow start node
  first_child start node [] way = (node, way.0, ([], tt, refl))
  first_child start node (earlier ∷ before) way = onward (first_child start earlier before way.1)
    where
      onward : AreBelow start earlier → AreBelow start node
      onward found =
          let below : IsBelow position company reached found.0 earlier = found.2 in (
            found.0,
            found.1,
            (
              node ∷ below.0,
              (
                subst (λ (n : Node). IsAmong node
                    (children position company reached n)) (sym below.2) way.0,
                below.1,
              ),
              refl,
            ),
          )

  node_or_below : (start node : Node) → IsBelow position company reached start node
      → (start ≡ node) ⊎ AreBelow start node
  node_or_below start node ([], way, is) = inl is
  node_or_below start node (last ∷ before, way, is) =
      inr (subst (AreBelow start) is (first_child start last before way))

module _ (position : Position) (lawful : IsLawful position) (company : Company) (reached : List Stop)
    (named : (stop : Stop) → IsAmong stop reached → joined_stop_of stop ≡ stop) (all : List Kind) (revenue : ℕ) where
  abbrev AreGood : List Node → Type 0
  AreGood nodes = (node : Node) → IsAmong node nodes → IsGoodNode position company all node

  children_good : (node : Node) → IsGoodNode position company all node
      → AreGood (children position company reached node)
  children_good node good child among =
      let choice : IsGoodChoice position lawful company reached named all node.assigned node.begun node.trains child =
      choice_good position lawful company reached named all node.assigned node.begun node.trains good child among in
      choice.good

  leaf_bound : (node : Node) → IsLeaf node → bound position reached node ≡ revenue_of_runs position node.assigned
  leaf_bound node leaf =
      let nothing : may_come position reached node.begun node.trains ≡ 0 =
      ap (may_come position reached node.begun) leaf in omega arith

  -- a leaf below a node at which marks hold earns no more
  abbrev IsCovered : Node → Type 0
  IsCovered node = (leaf : Node) → IsBelow position company reached node leaf → IsLeaf leaf
      → revenue_of_runs position leaf.assigned ≤ revenue

  covered_by_cut : (node : Node) → bound position reached node ≤ revenue → IsGoodNode position company all node
      → IsCovered node
  covered_by_cut node within good leaf below is =
      let under = good_below position lawful company reached named all node leaf good below in
      let falls : bound position reached leaf ≤ bound position reached node = under.1 in
      let earns : bound position reached leaf ≡ revenue_of_runs position leaf.assigned = leaf_bound leaf is in
      omega arith

  mutual
    pub covered : (node : Node) (marks : List Bool) → Hold position company reached revenue node marks
        → IsGoodNode position company all node → IsCovered node
    covered _ _ (cut node within) good = covered_by_cut node within good
    covered _ _ (split node inner trains holds) good =
        λ leaf below is. elim (node_or_below position company reached node leaf below) [
          | inl same ↦ absurd (trains (subst (λ (n : Node). IsLeaf n) (sym same) is))
          | inr found ↦ each_covered (children position company reached node) inner holds (children_good node good)
              found.0 found.1 leaf found.2 is
        ]

    pub each_covered : (nodes : List Node) (marks : List Bool)
        → HoldInTurn position company reached revenue nodes marks → AreGood nodes → (child : Node)
        → IsAmong child nodes → IsCovered child
    each_covered _ _ none good = λ child among. absurd among
    each_covered _ _ (more node nodes first later holds hold) good = λ child among. elim among [
      | inl is ↦ subst (λ (n : Node). IsCovered n) is (covered node first holds (good node (inl refl)))
      | inr rest ↦ each_covered nodes later hold (λ n there. good n (inr there)) child rest
    ]

  -- what is written holds, where no legal set earns more
  good_ahead : (node : Node) (nodes : List Node) → AreGood (node ∷ nodes)
      → AreGood (children position company reached node ++ nodes)
  good_ahead node nodes good child among = elim ((among_both child (children position company reached node) nodes).0
      among) [
        | inl here ↦ children_good node (good node (inl refl)) child here
        | inr later ↦ good child (inr later)
      ]

  pub written_hold :
      ((runs : List TrainRun) → IsLegalSet position company all runs → revenue_of_runs position runs ≤ revenue) →
      (nodes : List Node) (marks : List Bool) → AreGood nodes → Writes position company reached revenue nodes marks →
      left_over position company reached revenue nodes marks ≡ Some []
  written_hold most [] [] good writes = refl
  written_hold most [] (mark ∷ marks) good writes = absurd writes
  written_hold most (node ∷ nodes) [] good writes = absurd writes
  written_hold most (node ∷ nodes) (false ∷ marks) good writes =
      read_cut position company reached revenue node marks nodes writes.0
      ∙ written_hold most nodes marks (λ n there. good n (inr there)) writes.1
  written_hold most (node ∷ nodes) (true ∷ marks) good writes =
      read_split position company reached revenue node marks nodes (no_leaf_there node (good node (inl refl)) writes.0)
      ∙ written_hold most (children position company reached node ++ nodes) marks (good_ahead node nodes good) writes.1
    where
      no_leaf_there : (node : Node) → IsGoodNode position company all node → revenue < bound position reached node
          → ¬ IsLeaf node
      no_leaf_there node good over leaf =
          let earns : bound position reached node ≡ revenue_of_runs position node.assigned = leaf_bound node leaf in
          let low : revenue_of_runs position node.assigned ≤ revenue =
          most node.assigned (good_set position company all node good) in
          absurd (omega arith)

module _ (position : Position) (lawful : IsLawful position) (company : Company) (trains : List Kind) where
  abbrev AreNamed : List Stop → Type 0
  AreNamed reached = (stop : Stop) → IsAmong stop reached → joined_stop_of stop ≡ stop

  stops_named : (reached : List Stop) → AreReached position company reached → AreNamed reached
  stops_named reached are stop among = reached_named position company stop ((are.exact stop).0 among)

  pub most_by_marks :
      (revenue : ℕ) (bits : List Bool) → AreMarks position company trains revenue bits → (runs : List TrainRun) →
      IsLegalSet position company trains runs → revenue_of_runs position runs ≤ revenue
  most_by_marks revenue bits are runs set =
      let named : AreNamed are.reached = stops_named are.reached are.are_reached in
      let found = set_is_leaf position lawful company trains are.reached (λ stop. (are.are_reached.exact stop).1) runs
      set in
      let low : revenue_of_runs position found.0.assigned ≤ revenue =
      covered position lawful company are.reached named trains revenue (root_of trains) are.marks are.hold
      (root_good position lawful company are.reached named trains) found.0 found.1 found.2 in
      omega (arith, found.3.earn_same)

pub accepted_is_greatest : AcceptedIsGreatest
accepted_is_greatest position company trains claim bits lawful accepted =
    let claims = accepted.claim_holds in
    record {
      earned = (claims.0, claims.2, claims.3);
      most = most_by_marks position lawful company trains claim.revenue bits accepted.are_marks;
    }

pub written_marks_hold : WrittenMarksHold
written_marks_hold position company trains reached revenue marks filling lawful are greatest writes fill =
    let named = stops_named position lawful company trains reached are in
    let root_is : (node : Node) → IsAmong node (root_of trains ∷ []) → IsGoodNode position company trains node =
    λ node among. elim among [
      | inl is ↦ subst (λ (n : Node). IsGoodNode position company trains n) is
          (root_good position lawful company reached named trains)
      | inr wrong ↦ absurd wrong
    ] in
    let read : left_over position company reached revenue (root_of trains ∷ []) marks ≡ Some [] =
    written_hold position lawful company reached named trains revenue greatest.most (root_of trains ∷ []) marks
    root_is writes in
    let found = held_at position company reached revenue (root_of trains) marks [] read in
    record {
      reached = reached;
      are_reached = are;
      marks = marks;
      filling = filling;
      parts = refl;
      hold = subst (λ (m : List Bool). Hold position company reached revenue (root_of trains) m)
          (sym (found.1 ∙ append-nil found.0)) found.2;
      fill = fill;
    }
