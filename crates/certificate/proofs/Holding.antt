-- Marks are read over the nodes ahead exactly if they hold, node by node; and what is written holds
-- where no leaf earns more than the revenue.
use Rattle.std.proofs.Common.{◌≡◌, ℕ, ◌≤◌, leb, Bool, true, false, if◌then◌else◌, Option, Some, None, List, [], ◌∷◌}
use Rattle.std.proofs.Common.{◌++◌, append_assoc, append-nil, refl, ap, sym, ◌∙◌, subst}
use Rattle.std.proofs.lemmas.Bool.{leb-true, le-leb}
use Rattle.map_tables.specs.declared.place.Stop.{Stop}
use Rattle.reach.specs.Position.{Position}
use Rattle.tables.specs.declared.rolling_stock.Kind.{Kind}
use Rattle.tables.specs.declared.roster.Company.{Company}
use Rattle.certificate.specs.Holding.{Hold, HoldInTurn, cut, left_over, more, none, split}
use Rattle.certificate.specs.HoldingLaws.{MarksHoldWhereRead}
use Rattle.certificate.specs.Tree.{IsLeaf, Node, bound, children}
use Rattle.certificate.specs.Walked.{has_no_train}

no_leaf : (trains : List Kind) → ¬ (trains ≡ []) → has_no_train trains ≡ false
no_leaf [] not = absurd (not refl)
no_leaf (kind ∷ later) not = refl

are_left : (trains : List Kind) → has_no_train trains ≡ false → ¬ (trains ≡ [])
are_left [] is = absurd cc
are_left (kind ∷ later) is = λ wrong. cc

module _ (position : Position) (company : Company) (reached : List Stop) (revenue : ℕ) where
  abbrev over : List Node → List Bool → Option (List Bool)
  over nodes marks = left_over position company reached revenue nodes marks

  abbrev HoldHere : Node → List Bool → Type 0
  HoldHere node marks = Hold position company reached revenue node marks

  abbrev HoldAhead : List Node → List Bool → Type 0
  HoldAhead nodes marks = HoldInTurn position company reached revenue nodes marks

  -- a split where trains are left
  pub read_split :
      (node : Node) (marks : List Bool) (nodes : List Node) → ¬ IsLeaf node →
      over (node ∷ nodes) (true ∷ marks) ≡ over (children position company reached node ++ nodes) marks
  read_split node marks nodes trains =
      ap (λ (b : Bool). if b then None else over (children position company reached node ++ nodes) marks)
      (no_leaf node.trains trains)

  pub read_cut :
      (node : Node) (marks : List Bool) (nodes : List Node) → bound position reached node ≤ revenue →
      over (node ∷ nodes) (false ∷ marks) ≡ over nodes marks
  read_cut node marks nodes within =
      ap (λ (b : Bool). if b then over nodes marks else None) (le-leb (bound position reached node) revenue within)

  mutual
    -- marks that hold at a node are read over it
    pub read_at :
        (node : Node) (marks : List Bool) → HoldHere node marks → (nodes : List Node) (rest : List Bool) →
        over (node ∷ nodes) (marks ++ rest) ≡ over nodes rest
    read_at _ _ (cut node within) nodes rest = read_cut node rest nodes within
    read_at _ _ (split node inner trains holds) nodes rest =
        read_split node (inner ++ rest) nodes trains ∙ read_in_turn (children position company reached node) inner
        holds nodes rest

    pub read_in_turn :
        (ahead : List Node) (marks : List Bool) → HoldAhead ahead marks → (nodes : List Node) (rest : List Bool) →
        over (ahead ++ nodes) (marks ++ rest) ≡ over nodes rest
    read_in_turn _ _ none nodes rest = refl
    read_in_turn _ _ (more node others first later holds hold) nodes rest =
        ap (over (node ∷ (others ++ nodes))) (append_assoc first later rest)
        ∙ (read_at node first holds (others ++ nodes) (later ++ rest) ∙ read_in_turn others later hold nodes rest)

  -- the marks of the nodes ahead begin with those of the first ones
  pub record ArePartly (first later : List Node) (marks : List Bool) : Type 0 where
    pub ours : List Bool
    pub theirs : List Bool
    pub parts : marks ≡ ours ++ theirs
    pub hold : HoldAhead first ours
    pub rest : HoldAhead later theirs

  pub record ArePartlyOf (node : Node) (later : List Node) (marks : List Bool) : Type 0 where
    pub ours : List Bool
    pub theirs : List Bool
    pub parts : marks ≡ ours ++ theirs
    pub hold : HoldHere node ours
    pub rest : HoldAhead later theirs

  abbrev AreOpened : List Node → List Bool → Type 0
  AreOpened [] marks = marks ≡ []
  AreOpened (node ∷ nodes) marks = ArePartlyOf node nodes marks

  pub opened : (nodes : List Node) (marks : List Bool) → HoldAhead nodes marks → AreOpened nodes marks
  opened _ _ none = refl
  opened _ _ (more node nodes first later holds hold) =
      record { ours = first; theirs = later; parts = refl; hold = holds; rest = hold }

  pub parted : (first later : List Node) (marks : List Bool) → HoldAhead (first ++ later) marks
      → ArePartly first later marks
  parted [] later marks hold = record { ours = []; theirs = marks; parts = refl; hold = none; rest = hold }
  parted (node ∷ first) later marks hold =
      let here : ArePartlyOf node (first ++ later) marks = opened (node ∷ (first ++ later)) marks hold in
      let rest : ArePartly first later here.theirs = parted first later here.theirs here.rest in
      record {
        ours = here.ours ++ rest.ours;
        theirs = rest.theirs;
        parts = here.parts ∙ (ap (λ (m : List Bool). here.ours ++ m) rest.parts
            ∙ sym (append_assoc here.ours rest.ours rest.theirs));
        hold = more node first here.ours rest.ours here.hold rest.hold;
        rest = rest.rest;
      }

  -- marks that are read over the nodes ahead hold, except for what is left over
  pub record AreHeld (nodes : List Node) (marks left : List Bool) : Type 0 where
    pub read : List Bool
    pub parts : marks ≡ read ++ left
    pub hold : HoldAhead nodes read

  cut_held :
      (node : Node) (nodes : List Node) (marks left : List Bool) → bound position reached node ≤ revenue
      → AreHeld nodes marks left →
      AreHeld (node ∷ nodes) (false ∷ marks) left
  cut_held node nodes marks left within rest =
      record {
        read = false ∷ rest.read;
        parts = ap (λ (m : List Bool). false ∷ m) rest.parts;
        hold = more node nodes (false ∷ []) rest.read (cut node within) rest.hold;
      }

  split_held :
      (node : Node) (nodes : List Node) (marks left : List Bool) → ¬ IsLeaf node →
      AreHeld (children position company reached node ++ nodes) marks left → AreHeld (node ∷ nodes) (true ∷ marks) left
  split_held node nodes marks left trains rest =
      let both : ArePartly (children position company reached node) nodes rest.read =
      parted (children position company reached node) nodes rest.read rest.hold in
      record {
        read = (true ∷ both.ours) ++ both.theirs;
        parts = ap (λ (m : List Bool). true ∷ m) (rest.parts ∙ ap (λ (m : List Bool). m ++ left) both.parts);
        hold = more node nodes (true ∷ both.ours) both.theirs (split node both.ours trains both.hold) both.rest;
      }

  pub held : (nodes : List Node) (marks left : List Bool) → over nodes marks ≡ Some left → AreHeld nodes marks left
  held [] marks left is = record { read = []; parts = cc; hold = none }
  held (node ∷ nodes) [] left is = absurd cc
  held (node ∷ nodes) (false ∷ marks) left is = by_test (leb (bound position reached node) revenue) refl
      (λ reads. held nodes marks left reads) is
    where
      by_test :
          (b : Bool) → leb (bound position reached node) revenue ≡ b
          → (over nodes marks ≡ Some left → AreHeld nodes marks left) →
          (if b then over nodes marks else None) ≡ Some left → AreHeld (node ∷ nodes) (false ∷ marks) left
      by_test true within rest reads = cut_held node nodes marks left
          (leb-true (bound position reached node) revenue within) (rest reads)
      by_test false within rest reads = absurd cc
  held (node ∷ nodes) (true ∷ marks) left is = by_trains (has_no_train node.trains) refl
      (λ reads. held (children position company reached node ++ nodes) marks left reads) is
    where
      by_trains :
          (b : Bool) → has_no_train node.trains ≡ b →
          (over (children position company reached node ++ nodes) marks ≡ Some left
          → AreHeld (children position company reached node ++ nodes) marks left) →
          (if b then None else over (children position company reached node ++ nodes) marks) ≡ Some left
          → AreHeld (node ∷ nodes) (true ∷ marks) left
      by_trains true none_left rest reads = absurd cc
      by_trains false trains rest reads = split_held node nodes marks left (are_left node.trains trains) (rest reads)

  -- at a node, and nothing after it
  pub held_at : (node : Node) (marks left : List Bool) → over (node ∷ []) marks ≡ Some left
      → (read : List Bool) × (marks ≡ read ++ left) × HoldHere node read
  held_at node marks left is =
      let found : AreHeld (node ∷ []) marks left = held (node ∷ []) marks left is in
      let here : ArePartlyOf node [] found.read = opened (node ∷ []) found.read found.hold in
      let empty : here.theirs ≡ [] = opened [] here.theirs here.rest in
      let whole : found.read ≡ here.ours = here.parts
      ∙ (ap (λ (m : List Bool). here.ours ++ m) empty ∙ append-nil here.ours) in
      (found.read, found.parts, subst (λ (m : List Bool). HoldHere node m) (sym whole) here.hold)

  pub read_whole : (node : Node) (marks rest : List Bool) → HoldHere node marks
      → over (node ∷ []) (marks ++ rest) ≡ Some rest
  read_whole node marks rest holds = read_at node marks holds [] rest

pub hold_where_read : MarksHoldWhereRead
hold_where_read position company reached revenue node marks = (
  λ hold.
      subst (λ (m : List Bool). left_over position company reached revenue (node ∷ []) m ≡ Some []) (append-nil marks)
      (read_whole position company reached revenue node marks [] hold),
  λ reads.
      let found = held_at position company reached revenue node marks [] reads in
      subst (λ (m : List Bool). Hold position company reached revenue node m) (sym (found.1 ∙ append-nil found.0))
      found.2,
)
