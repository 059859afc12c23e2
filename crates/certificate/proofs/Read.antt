-- A walk by marks reads them over the nodes ahead; a walk that writes marks writes those of the
-- nodes ahead.
use Rattle.std.proofs.Common.{◌≡◌, ℕ, ◌<◌, ◌≤◌, Bool, true, false, inl, inr, Option, Some, None}
use Rattle.std.proofs.Common.{if◌then◌else◌, List, [], ◌∷◌, ◌++◌, append_assoc, append-nil, refl, ap, sym, ◌∙◌, subst}
use Rattle.std.proofs.Common.{arith}
use Rattle.std.proofs.lemmas.Bool.{le-leb, lt-leb}
use Rattle.map_tables.specs.declared.place.Stop.{Stop}
use Rattle.reach.specs.Position.{Position}
use Rattle.reach.specs.Stops.{AreReachedStops}
use Rattle.tables.specs.declared.rolling_stock.Kind.{Kind}
use Rattle.tables.specs.declared.roster.Company.{Company}
use Rattle.certificate.specs.Holding.{AreReached, Writes, left_over}
use Rattle.certificate.specs.Read.{IsRead, IsWritten}
use Rattle.certificate.specs.Tree.{Node, bound, children, greatest_first, node_of, root_of}
use Rattle.certificate.specs.Walked.{Walks, at_end, capped, cuts, ends, has_no_train, splits}
use Rattle.certificate.specs.Walking.{IsTree, IsBetweenRuns, node_from, trains_of_tree}
use Rattle.certificate.specs.declared.tree.Tree.{Tree}
use Rattle.certificate.specs.declared.decider.Decision.{Decision}
use Rattle.certificate.specs.declared.decider.Decision.TheVariants.{Stop as End}

-- what is left over, or nothing where the walk ended
abbrev pub if_whole : Bool → List Bool → Option (List Bool)
if_whole true left = Some left
if_whole false left = None

low_bound : (amount revenue : ℕ) → revenue ≤ 4294967295 → capped amount ≤ revenue → amount ≤ revenue
low_bound amount revenue low is = omega arith

high_bound : (amount revenue : ℕ) → revenue < capped amount → revenue < amount
high_bound amount revenue is = omega arith

module _ {S : Type 0} (left : S → List Bool) (revenue_in : S → ℕ) (position : Position) (company : Company)
    (reached : List Stop) (revenue : ℕ) (low : revenue ≤ 4294967295) where
  abbrev decided : S → ℕ → Bool → Decision → S → Type 0
  decided old amount leaf decision new = IsRead (left old) (revenue_in old) amount leaf decision (left new)
      × (revenue_in new ≡ revenue_in old)

  abbrev over : List Node → List Bool → Option (List Bool)
  over nodes marks = left_over position company reached revenue nodes marks

  read_cut : (node : Node) (nodes : List Node) (marks : List Bool) → bound position reached node ≤ revenue
      → over (node ∷ nodes) (false ∷ marks) ≡ over nodes marks
  read_cut node nodes marks within =
      ap (λ (b : Bool). if b then over nodes marks else None) (le-leb (bound position reached node) revenue within)

  read_over : (node : Node) (nodes : List Node) (marks : List Bool) → revenue < bound position reached node
      → over (node ∷ nodes) (false ∷ marks) ≡ None
  read_over node nodes marks above =
      ap (λ (b : Bool). if b then over nodes marks else None) (lt-leb (bound position reached node) revenue above)

  read_split : (node : Node) (nodes : List Node) (marks : List Bool) → has_no_train node.trains ≡ false
      → over (node ∷ nodes) (true ∷ marks) ≡ over (children position company reached node ++ nodes) marks
  read_split node nodes marks inner =
      ap (λ (b : Bool). if b then None else over (children position company reached node ++ nodes) marks)
      inner

  read_leaf : (node : Node) (nodes : List Node) (marks : List Bool) → has_no_train node.trains ≡ true
      → over (node ∷ nodes) (true ∷ marks) ≡ None
  read_leaf node nodes marks outer =
      ap (λ (b : Bool). if b then None else over (children position company reached node ++ nodes) marks)
      outer

  -- a walk by marks reads them
  pub walk_reads : (s t : S) (nodes : List Node) (whole : Bool) → revenue_in s ≡ revenue
      → Walks decided position company reached s nodes whole t → over nodes (left s) ≡ if_whole whole (left t)
  walk_reads s _ _ _ is (at_end _) = refl
  walk_reads s t _ _ is (cuts _ middle _ node nodes whole made walk) =
      let within : bound position reached node ≤ revenue =
      low_bound (bound position reached node) revenue low (omega (arith, made.0.1, is)) in
      ap (over (node ∷ nodes)) made.0.0 ∙ (read_cut node nodes (left middle) within
      ∙ walk_reads middle t nodes whole (made.1 ∙ is) walk)
  walk_reads s t _ _ is (splits _ middle _ node nodes whole made walk) =
      ap (over (node ∷ nodes)) made.0.0
      ∙ (read_split node nodes (left middle) made.0.1
      ∙ walk_reads middle t (children position company reached node ++ nodes) whole (made.1 ∙ is) walk)
  walk_reads s _ _ _ is (ends _ middle node nodes made) = refused made.0
    where
      refused : IsRead (left s) (revenue_in s) (capped (bound position reached node)) (has_no_train node.trains) End
          (left middle) → over (node ∷ nodes) (left s) ≡ None
      refused (inl none) = ap (over (node ∷ nodes)) none
      refused (inr (inl above)) =
          ap (over (node ∷ nodes)) above.0 ∙ read_over node nodes (left middle)
          (high_bound (bound position reached node) revenue (omega (arith, above.1, is)))
      refused (inr (inr leaf)) = ap (over (node ∷ nodes)) leaf.0 ∙ read_leaf node nodes (left middle) leaf.1

module _ {S : Type 0} (written : S → List Bool) (revenue_in : S → ℕ) (failed : S → Bool) (position : Position)
    (company : Company) (reached : List Stop) (revenue : ℕ) (low : revenue ≤ 4294967295) where
  abbrev writing : S → ℕ → Bool → Decision → S → Type 0
  writing old amount leaf decision new = IsWritten (written old) (revenue_in old) amount decision (written new)
      (failed new)
      × (revenue_in new ≡ revenue_in old)

  -- what is written over the nodes ahead, after what was written
  abbrev pub IsWrittenOver : S → List Node → S → Type 0
  IsWrittenOver s nodes t = (marks : List Bool) × Writes position company reached revenue nodes marks
      × (written t ≡ written s ++ marks)

  abbrev pub IfWhole : Bool → S → List Node → S → Type 0
  IfWhole true s nodes t = IsWrittenOver s nodes t
  IfWhole false s nodes t = failed t ≡ true

  one_more : (s middle t : S) (mark : Bool) (marks : List Bool) → written middle ≡ written s ++ mark ∷ []
      → written t ≡ written middle ++ marks → written t ≡ written s ++ mark ∷ marks
  one_more s middle t mark marks is also = also ∙ (ap (λ (l : List Bool). l ++ marks) is
      ∙ append_assoc (written s) (mark ∷ []) marks)

  after : (whole : Bool) (s middle t : S) (nodes all : List Node) (mark : Bool)
      → written middle ≡ written s ++ mark ∷ [] → ((marks : List Bool)
      → Writes position company reached revenue nodes marks
      → Writes position company reached revenue all (mark ∷ marks)) → IfWhole whole middle nodes t
      → IfWhole whole s all t
  after true s middle t nodes all mark is more later =
      (mark ∷ later.0, more later.0 later.1, one_more s middle t mark later.0 is later.2)
  after false s middle t nodes all mark is more later = later

  -- a walk that writes marks
  pub walk_writes : (s t : S) (nodes : List Node) (whole : Bool) → revenue_in s ≡ revenue
      → Walks writing position company reached s nodes whole t → IfWhole whole s nodes t
  walk_writes s _ _ _ is (at_end _) = ([], tt, sym (append-nil (written s)))
  walk_writes s t _ _ is (cuts _ middle _ node nodes whole made walk) =
      let within : bound position reached node ≤ revenue =
      low_bound (bound position reached node) revenue low (omega (arith, made.0.1, is)) in
      after whole s middle t nodes (node ∷ nodes) false made.0.0 (λ marks writes. (within, writes))
      (walk_writes middle t nodes whole (made.1 ∙ is) walk)
  walk_writes s t _ _ is (splits _ middle _ node nodes whole made walk) =
      let above : revenue < bound position reached node =
      high_bound (bound position reached node) revenue (omega (arith, made.0.1, is)) in
      let ahead : List Node = children position company reached node ++ nodes in
      after whole s middle t ahead (node ∷ nodes) true made.0.0 (λ marks writes. (above, writes))
      (walk_writes middle t ahead whole (made.1 ∙ is) walk)
  walk_writes s _ _ _ is (ends _ middle node nodes made) = made.0

  -- unless the walk ended
  pub whole_written : (whole : Bool) (s t : S) (nodes : List Node) → IfWhole whole s nodes t → failed t ≡ false
      → IsWrittenOver s nodes t
  whole_written true s t nodes walk none = walk
  whole_written false s t nodes walk none = absurd (let wrong : true ≡ false = sym walk ∙ none in cc)

-- the stops that are reached
pub reached_are : (position : Position) (company : Company) (stops : List Stop)
    → AreReachedStops position company stops → AreReached position company stops
reached_are position company stops found =
    subst (λ (l : List Stop). AreReached position company l) found.2
    (record { exact = found.1.stops; in_order = found.1.in_order })

pub root_is : (tree : Tree) (trains : List Kind) → trains_of_tree tree ≡ greatest_first trains
    → node_from tree [] 0 ≡ root_of trains
root_is tree trains is = ap (node_of [] []) is

pub root_is_between : (position : Position) (tree : Tree) → IsTree position tree → IsBetweenRuns position tree 0 []
root_is_between position tree tree_is = record { tree_is = tree_is; earns = refl }
