-- A walk over the children of a node, group by group, and down the nodes at which no run is begun.
use Rattle.std.proofs.Common.{◌≡◌, ℕ, suc, ◌+◌, ◌-◌, ◌<◌, ◌≤◌, Bool, true, false, inl, Option, Some, None, List, []}
use Rattle.std.proofs.Common.{◌∷◌, ◌++◌, length, get_or, drop, refl, ap, sym, ◌∙◌, subst, arith, append-nil}
use Rattle.std.proofs.Common.{append_assoc, option_map}
use Rattle.std.proofs.lemmas.List.{drop_all, drop_more}
use Rattle.map_tables.specs.declared.hex.Hex.{Hex}
use Rattle.map_tables.specs.declared.hex.Hex.TheVariants.{A9, A11, I1, J2}
use Rattle.map_tables.specs.Side.{facing_of}
use Rattle.map_tables.specs.declared.place.Stop.{Stop}
use Rattle.map_tables.specs.declared.place.StopNumber.TheVariants.{First}
use Rattle.map_tables.specs.declared.side.Side.{Side}
use Rattle.map_tables.specs.declared.side.Side.TheVariants.{SouthWest}
use Rattle.map_tables.specs.declared.track.TrackEnd.{TrackEnd}
use Rattle.map_tables.specs.declared.track.TrackEnd.TheVariants.{Side as AtSide, Stop as AtStop}
use Rattle.map_tables.specs.declared.track.Link.{Link}
use Rattle.reach.specs.Lawful.{IsLawful}
use Rattle.reach.specs.Position.{IsAmong, Position, links_of}
use Rattle.reach.specs.Walk.{entered_at, spot_at}
use Rattle.reach.specs.declared.walk.Spot.{Spot}
use Rattle.reach.specs.declared.walk.WalkStep.{WalkStep}
use Rattle.tables.specs.declared.rolling_stock.Kind.{Kind}
use Rattle.tables.specs.declared.rolling_stock.Kind.TheVariants.{Two}
use Rattle.legal_runs.specs.Legal.{listed}
use Rattle.legal_runs.specs.Set.{TrainRun}
use Rattle.certificate.specs.Tree.{Node, bound, children, choices_at, for_each, hexes_of, may_all_earn, may_come}
use Rattle.certificate.specs.Tree.{node_if, node_of, setting_out, steps_at, steps_by, steps_from, with_step, with_steps}
use Rattle.certificate.specs.Walked.{at_end, capped, cuts, ends, has_no_train, splits}
use Rattle.reach.specs.Search.{twin_of}
use Rattle.certificate.specs.Walking.{LeavesOver, IsBetweenRuns, WalksOver, earned_from, node_from, reached_in}
use Rattle.certificate.specs.Walking.{set_outs, trains_of_tree}
use Rattle.certificate.specs.declared.decider.Decision.{Decision}
use Rattle.certificate.specs.declared.decider.Decision.TheVariants.{Cut, Split, Stop as Ends}
use Rattle.certificate.specs.declared.tree.Tree.{Tree}
use Rattle.certificate.proofs.Branching.{among_for_each, step_is}
use Rattle.certificate.proofs.Places.{earned_is}
use Rattle.certificate.proofs.Walked.{walks_both, walks_ended}

-- what is read past the end of a list of stops, or of links
abbrev pub default_stop : Stop
default_stop = record { hex = A9; number = First }

abbrev pub default_link : Link
default_link = record { hex = A9; a = AtSide SouthWest; b = AtSide SouthWest }

-- the hex beyond a border is the neighbour over it
pub beyond_it : (side : Side) (beyond : Spot) (next : Option Hex) →
    option_map (λ other. spot_at other (AtSide (facing_of side))) next ≡ Some beyond → Some beyond.hex ≡ next
beyond_it side beyond None is = absurd cc
beyond_it side beyond (Some other) is = let there : spot_at other (AtSide (facing_of side)) ≡ beyond =
    cc in ap (λ (s : Spot). Some s.hex) (sym there)

-- steps of two lists
steps_both : (test : WalkStep → Bool) (node : Node) (first second : List WalkStep)
    → with_steps test node (first ++ second) ≡ with_steps test node first ++ with_steps test node second
steps_both test node [] second = refl
steps_both test node (step ∷ first) second =
    ap (λ (l : List Node). node_if (test step) (with_step node step) ++ l) (steps_both test node first second)
    ∙ sym (append_assoc (node_if (test step) (with_step node step)) (with_steps test node first)
    (with_steps test node second))

-- one step, or none
pub one_step : (test : WalkStep → Bool) (node : Node) (step : WalkStep)
    → with_steps test node (step ∷ []) ≡ node_if (test step) (with_step node step)
one_step test node step = append-nil (node_if (test step) (with_step node step))

-- the step into a link, if there is one
pub step_found :
    (test : WalkStep → Bool) (node : Node) (end : TrackEnd) (link : Link) (found : Option WalkStep) (step : WalkStep)
    → found ≡ Some step → listed found ≡ steps_by end link →
    node_if (test step) (with_step node step) ≡ with_steps test node (steps_by end link)
step_found test node end link found step is ways =
    sym (one_step test node step) ∙ (ap (λ (o : Option WalkStep). with_steps test node (listed o)) (sym is)
    ∙ ap (with_steps test node) ways)

pub no_step_found : (test : WalkStep → Bool) (node : Node) (end : TrackEnd) (link : Link) (found : Option WalkStep) → found ≡ None
    → listed found ≡ steps_by end link → with_steps test node (steps_by end link) ≡ []
no_step_found test node end link found is ways = ap (with_steps test node) (sym ways ∙ ap listed is)

pub step_enters :
    (position : Position) → IsLawful position → (at : Spot) (link : Link) (found : Option WalkStep) (step : WalkStep)
    → IsAmong link (links_of position at.hex) →
    found ≡ Some step → listed found ≡ steps_by at.end link → entered_at step ≡ at
step_enters position lawful at link found step among is ways =
    let here : IsAmong step (steps_by at.end link) =
    subst (λ (l : List WalkStep). IsAmong step l) (sym (ap listed is) ∙ ways) (inl refl) in
    (step_is position lawful at.hex at.end step (among_for_each (steps_by at.end) (links_of position at.hex) link step
    among here)).enters

-- a stop is left in its hexes
pub one_hex : (position : Position) (stop : Stop) → twin_of stop.hex ≡ None
    → steps_from position stop ≡ steps_at position stop.hex (AtStop stop.number)
one_hex position stop none =
    ap (for_each (λ (hex : Hex). steps_at position hex (AtStop stop.number))) (alone stop.hex none)
    ∙ append-nil (steps_at position stop.hex (AtStop stop.number))
  where
    alone : (hex : Hex) → twin_of hex ≡ None → hexes_of hex ≡ hex ∷ []
    alone J2 is = cc
    alone A11 is = cc
    alone hex is = refl

pub two_hexes : (position : Position) (stop : Stop) (other : Hex) → twin_of stop.hex ≡ Some other
    → steps_from position stop ≡ steps_at position other (AtStop stop.number)
    ++ steps_at position stop.hex (AtStop stop.number)
two_hexes position stop other is =
    ap (for_each (λ (hex : Hex). steps_at position hex (AtStop stop.number))) (both stop.hex other is)
    ∙ ap (λ (l : List WalkStep). steps_at position other (AtStop stop.number) ++ l)
    (append-nil (steps_at position stop.hex (AtStop stop.number)))
  where
    both : (hex other : Hex) → twin_of hex ≡ Some other → hexes_of hex ≡ other ∷ hex ∷ []
    both J2 other so = let same : I1 ≡ other = cc in ap (λ (h : Hex). h ∷ J2 ∷ []) same
    both A11 other so = let same : A9 ≡ other = cc in ap (λ (h : Hex). h ∷ A11 ∷ []) same
    both hex other so = absurd cc

pub hexes_steps :
    (position : Position) (test : WalkStep → Bool) (node : Node) (stop : Stop) (other : Hex)
    → twin_of stop.hex ≡ Some other →
    with_steps test node (steps_from position stop)
    ≡ with_steps test node (steps_at position other (AtStop stop.number))
    ++ with_steps test node (steps_at position stop.hex (AtStop stop.number))
hexes_steps position test node stop other is =
    ap (with_steps test node) (two_hexes position stop other is)
    ∙ steps_both test node (steps_at position other (AtStop stop.number))
    (steps_at position stop.hex (AtStop stop.number))

module _ {S : Type 0} (decides : S → ℕ → Bool → Decision → S → Type 0) (position : Position) (tree : Tree) where
  abbrev Over : S → List Node → Bool → S → Type 0
  Over s nodes whole t = WalksOver decides position tree s nodes whole t

  abbrev Ahead : S → List Node → S → List Node → Type 0
  Ahead s all t rest = LeavesOver decides position tree s all t rest

  pub none_ahead : (s : S) (all : List Node) → Ahead s all s all
  none_ahead s all whole u walk = walk

  pub goes_over : (s t u : S) (all first second : List Node) → Ahead s all t (first ++ second) → Over t first true u
      → Ahead s all u second
  goes_over s t u all first second ahead walk whole last later =
      ahead whole last (walks_both decides position tree.company (reached_in tree) t u last first second whole walk
      later)

  pub ends_on_way : (s t u : S) (all first second : List Node) → Ahead s all t (first ++ second)
      → Over t first false u → Over s all false u
  ends_on_way s t u all first second ahead walk =
      ahead false u (walks_ended decides position tree.company (reached_in tree) t u first second walk)

  pub goes_to_end : (s t : S) (all rest : List Node) → rest ≡ [] → Ahead s all t rest → Over s all true t
  goes_to_end s t all rest none ahead = ahead true t (subst (λ (l : List Node). Over t l true t) (sym none) (at_end t))

  pub over_none : (s : S) (nodes : List Node) → nodes ≡ [] → Over s nodes true s
  over_none s nodes none = subst (λ (l : List Node). Over s l true s) (sym none) (at_end s)

  -- the steps that are made of some things
  module _ {A : Type 0} (make : A → List WalkStep) (test : WalkStep → Bool) (node : Node) (things : List A) where
    abbrev nodes_from : ℕ → List Node
    nodes_from index = with_steps test node (for_each make (drop index things))

    next_first : (index : ℕ) (thing : A) → index < length things
        → nodes_from index ≡ with_steps test node (make (get_or things index thing)) ++ nodes_from (index + 1)
    next_first index thing low =
        ap (λ (l : List A). with_steps test node (for_each make l)) (drop_more things index thing low)
        ∙ steps_both test node (make (get_or things index thing)) (for_each make (drop (index + 1) things))

    pub thing_over :
        (s t u : S) (all : List Node) (index : ℕ) (thing : A) → index < length things
        → Ahead s all t (nodes_from index) →
        Over t (with_steps test node (make (get_or things index thing))) true u → Ahead s all u (nodes_from (index + 1))
    thing_over s t u all index thing low ahead walk =
        goes_over s t u all (with_steps test node (make (get_or things index thing))) (nodes_from (index + 1))
        (subst (λ (l : List Node). Ahead s all t l) (next_first index thing low) ahead) walk

    pub thing_ends :
        (s t u : S) (all : List Node) (index : ℕ) (thing : A) → index < length things
        → Ahead s all t (nodes_from index) →
        Over t (with_steps test node (make (get_or things index thing))) false u → Over s all false u
    thing_ends s t u all index thing low ahead walk =
        ends_on_way s t u all (with_steps test node (make (get_or things index thing))) (nodes_from (index + 1))
        (subst (λ (l : List Node). Ahead s all t l) (next_first index thing low) ahead) walk

    pub things_over : (s t : S) (all : List Node) (index : ℕ) → length things ≤ index
        → Ahead s all t (nodes_from index) → Over s all true t
    things_over s t all index high ahead =
        goes_to_end s t all (nodes_from index) (ap (λ (l : List A). with_steps test node (for_each make l))
        (drop_all index things high)) ahead

  -- a node where a run is begun
  pub one_cut :
      (s t : S) (node : Node) → decides s (capped (bound position (reached_in tree) node)) (has_no_train node.trains)
      Cut t → Over s (node ∷ []) true t
  one_cut s t node decided = cuts s t t node [] true decided (at_end t)

  pub one_end :
      (s t : S) (node : Node) → decides s (capped (bound position (reached_in tree) node)) (has_no_train node.trains)
      Ends t → Over s (node ∷ []) false t
  one_end s t node decided = ends s t node [] decided

  pub one_split :
      (s t u : S) (node : Node) (whole : Bool) → decides s (capped (bound position (reached_in tree) node))
      (has_no_train node.trains) Split t →
      Over t (children position tree.company (reached_in tree) node) whole u → Over s (node ∷ []) whole u
  one_split s t u node whole decided walk =
      splits s t u node [] whole decided (subst (λ (l : List Node). Over t l whole u)
      (sym (append-nil (children position tree.company (reached_in tree) node))) walk)

  -- no run is begun
  come_is : (trains : List Kind) → may_come position (reached_in tree) [] trains
      ≡ may_all_earn position (reached_in tree) trains
  come_is [] = refl
  come_is (kind ∷ later) = omega arith

  module _ (value : ℕ) (assigned : List TrainRun) (at_node : IsBetweenRuns position tree value assigned) where
    pub bound_from : (place : ℕ) → capped (value + capped (earned_from tree.groups place))
        ≡ capped (bound position (reached_in tree) (node_from tree assigned place))
    bound_from place =
        let come = come_is (drop place (trains_of_tree tree)) in
        let all = earned_is position (reached_in tree) tree.groups at_node.tree_is.earnings place in
        omega (arith, at_node.earns, come, all)

    pub leaf_bound : (place : ℕ) → length (trains_of_tree tree) ≤ place
        → value ≡ capped (bound position (reached_in tree) (node_from tree assigned place))
    leaf_bound place high =
        let none : may_come position (reached_in tree) [] (drop place (trains_of_tree tree)) ≡ 0 =
        ap (may_come position (reached_in tree) []) (drop_all place (trains_of_tree tree) high) in
        omega (arith, at_node.earns, none)

    kind_first : (place : ℕ) → place < length (trains_of_tree tree)
        → (kind : Kind) × (drop place (trains_of_tree tree) ≡ kind ∷ drop (place + 1) (trains_of_tree tree))
    kind_first place low = (get_or (trains_of_tree tree) place Two, drop_more (trains_of_tree tree) place Two low)

    pub inner : (place : ℕ) → place < length (trains_of_tree tree)
        → has_no_train (drop place (trains_of_tree tree)) ≡ false
    inner place low = ap has_no_train (kind_first place low).1

    pub outer : (place : ℕ) → length (trains_of_tree tree) ≤ place
        → has_no_train (drop place (trains_of_tree tree)) ≡ true
    outer place high = ap has_no_train (drop_all place (trains_of_tree tree) high)

    children_from : (place : ℕ) → place < length (trains_of_tree tree)
        → children position tree.company (reached_in tree) (node_from tree assigned place)
        ≡ node_from tree assigned (place + 1) ∷ setting_out position tree.company (reached_in tree)
        (node_from tree assigned place)
    children_from place low =
        let first = kind_first place low in
        ap (choices_at position tree.company (reached_in tree) assigned []) first.1
        ∙ ap (λ (l : List Kind). node_from tree assigned (place + 1)
        ∷ setting_out position tree.company (reached_in tree) (node_of assigned [] l)) (sym first.1)

    no_children : (place : ℕ) → length (trains_of_tree tree) ≤ place
        → children position tree.company (reached_in tree) (node_from tree assigned place) ≡ []
    no_children place high = ap (choices_at position tree.company (reached_in tree) assigned [])
        (drop_all place (trains_of_tree tree) high)

    one_out : (first place : ℕ) → first ≤ place → set_outs position tree assigned first (place + 1 - first)
        ≡ setting_out position tree.company (reached_in tree) (node_from tree assigned place)
        ++ set_outs position tree assigned first (place - first)
    one_out first place low =
        let e : place + 1 - first ≡ suc (place - first) = omega arith in
        let f : first + (place - first) ≡ place = omega arith in
        ap (set_outs position tree assigned first) e
        ∙ ap (λ (n : ℕ). setting_out position tree.company (reached_in tree) (node_from tree assigned n)
        ++ set_outs position tree assigned first (place - first)) f

    -- down the nodes at which no run is begun
    pub down_first : (s : S) (first : ℕ) → Ahead s (node_from tree assigned first ∷ []) s
        (node_from tree assigned first ∷ set_outs position tree assigned first (first - first))
    down_first s first whole u walk =
        let e : first - first ≡ 0 = omega arith in
        subst (λ (n : ℕ). Over s (node_from tree assigned first ∷ set_outs position tree assigned first n) whole u) e
        walk

    pub down_next :
        (s t u : S) (first place : ℕ) → first ≤ place → place < length (trains_of_tree tree) →
        Ahead s (node_from tree assigned first ∷ []) t (node_from tree assigned place
        ∷ set_outs position tree assigned first (place - first)) →
        decides t (capped (value + capped (earned_from tree.groups place))) false Split u →
        Ahead s (node_from tree assigned first ∷ []) u (node_from tree assigned (place + 1)
        ∷ set_outs position tree assigned first (place + 1 - first))
    down_next s t u first place low before ahead decided whole last walk =
        let node : Node = node_from tree assigned place in
        let rest : List Node = set_outs position tree assigned first (place - first) in
        let walked : Over u (children position tree.company (reached_in tree) node ++ rest) whole last =
        subst (λ (l : List Node). Over u (l ++ rest) whole last) (sym (children_from place before))
        (subst (λ (l : List Node). Over u (node_from tree assigned (place + 1) ∷ l) whole last)
        (one_out first place low) walk) in
        ahead whole last (splits t u last node rest whole (asked place false Split t u (inner place before) decided)
        walked)
      where
        asked : (at : ℕ) (leaf : Bool) (decision : Decision) (before after : S)
            → has_no_train (drop at (trains_of_tree tree)) ≡ leaf
            → decides before (capped (value + capped (earned_from tree.groups at))) leaf decision after
            → decides before (capped (bound position (reached_in tree) (node_from tree assigned at)))
            (has_no_train (drop at (trains_of_tree tree))) decision after
        asked at leaf decision before after is decided =
            subst (λ (n : ℕ). decides before n (has_no_train (drop at (trains_of_tree tree))) decision after)
            (bound_from at)
            (subst (λ (b : Bool). decides before (capped (value + capped (earned_from tree.groups at))) b decision
            after) (sym is) decided)

    asked_inner : (at : ℕ) (decision : Decision) (before after : S) → at < length (trains_of_tree tree)
        → decides before (capped (value + capped (earned_from tree.groups at))) false decision after
        → decides before (capped (bound position (reached_in tree) (node_from tree assigned at)))
        (has_no_train (drop at (trains_of_tree tree))) decision after
    asked_inner at decision before after low decided =
        subst (λ (n : ℕ). decides before n (has_no_train (drop at (trains_of_tree tree))) decision after)
        (bound_from at)
        (subst (λ (b : Bool). decides before (capped (value + capped (earned_from tree.groups at))) b decision after)
        (sym (inner at low)) decided)

    asked_outer : (at : ℕ) (decision : Decision) (before after : S) → length (trains_of_tree tree) ≤ at
        → decides before value true decision after → decides before
        (capped (bound position (reached_in tree) (node_from tree assigned at)))
        (has_no_train (drop at (trains_of_tree tree))) decision after
    asked_outer at decision before after high decided =
        subst (λ (n : ℕ). decides before n (has_no_train (drop at (trains_of_tree tree))) decision after)
        (leaf_bound at high)
        (subst (λ (b : Bool). decides before value b decision after) (sym (outer at high)) decided)

    pub down_cut :
        (s t u : S) (first place : ℕ) → place < length (trains_of_tree tree) →
        Ahead s (node_from tree assigned first ∷ []) t (node_from tree assigned place
        ∷ set_outs position tree assigned first (place - first)) →
        decides t (capped (value + capped (earned_from tree.groups place))) false Cut u →
        Ahead s (node_from tree assigned first ∷ []) u (set_outs position tree assigned first (place - first))
    down_cut s t u first place before ahead decided whole last walk =
        ahead whole last (cuts t u last (node_from tree assigned place)
        (set_outs position tree assigned first (place - first)) whole (asked_inner place Cut t u before decided) walk)

    pub down_end :
        (s t u : S) (first place : ℕ) → place < length (trains_of_tree tree) →
        Ahead s (node_from tree assigned first ∷ []) t (node_from tree assigned place
        ∷ set_outs position tree assigned first (place - first)) →
        decides t (capped (value + capped (earned_from tree.groups place))) false Ends u →
        Over s (node_from tree assigned first ∷ []) false u
    down_end s t u first place before ahead decided =
        ahead false u (ends t u (node_from tree assigned place) (set_outs position tree assigned first (place - first))
        (asked_inner place Ends t u before decided))

    pub leaf_cut :
        (s t u : S) (first place : ℕ) → length (trains_of_tree tree) ≤ place →
        Ahead s (node_from tree assigned first ∷ []) t (node_from tree assigned place
        ∷ set_outs position tree assigned first (place - first)) →
        decides t value true Cut u → Ahead s (node_from tree assigned first ∷ []) u
        (set_outs position tree assigned first (place - first))
    leaf_cut s t u first place high ahead decided whole last walk =
        ahead whole last (cuts t u last (node_from tree assigned place)
        (set_outs position tree assigned first (place - first)) whole (asked_outer place Cut t u high decided) walk)

    pub leaf_split :
        (s t u : S) (first place : ℕ) → length (trains_of_tree tree) ≤ place →
        Ahead s (node_from tree assigned first ∷ []) t (node_from tree assigned place
        ∷ set_outs position tree assigned first (place - first)) →
        decides t value true Split u → Ahead s (node_from tree assigned first ∷ []) u
        (set_outs position tree assigned first (place - first))
    leaf_split s t u first place high ahead decided whole last walk =
        let rest : List Node = set_outs position tree assigned first (place - first) in
        ahead whole last (splits t u last (node_from tree assigned place) rest whole
        (asked_outer place Split t u high decided)
        (subst (λ (l : List Node). Over u (l ++ rest) whole last) (sym (no_children place high)) walk))

    pub leaf_end :
        (s t u : S) (first place : ℕ) → length (trains_of_tree tree) ≤ place →
        Ahead s (node_from tree assigned first ∷ []) t (node_from tree assigned place
        ∷ set_outs position tree assigned first (place - first)) →
        decides t value true Ends u → Over s (node_from tree assigned first ∷ []) false u
    leaf_end s t u first place high ahead decided =
        ahead false u (ends t u (node_from tree assigned place) (set_outs position tree assigned first (place - first))
        (asked_outer place Ends t u high decided))

    -- up again
    last_out : (first place : ℕ) → first < place → set_outs position tree assigned first (place - first)
        ≡ setting_out position tree.company (reached_in tree) (node_from tree assigned (place - 1))
        ++ set_outs position tree assigned first (place - 1 - first)
    last_out first place low =
        let e : place - first ≡ place - 1 + 1 - first = omega arith in
        ap (set_outs position tree assigned first) e ∙ one_out first (place - 1) (omega arith)

    pub up_over :
        (s t u : S) (first place : ℕ) (all : List Node) → first < place →
        Ahead s all t (set_outs position tree assigned first (place - first)) →
        Over t (setting_out position tree.company (reached_in tree) (node_from tree assigned (place - 1))) true u →
        Ahead s all u (set_outs position tree assigned first (place - 1 - first))
    up_over s t u first place all low ahead walk =
        goes_over s t u all (setting_out position tree.company (reached_in tree) (node_from tree assigned (place - 1)))
        (set_outs position tree assigned first (place - 1 - first))
        (subst (λ (l : List Node). Ahead s all t l) (last_out first place low) ahead) walk

    pub up_ends :
        (s t u : S) (first place : ℕ) (all : List Node) → first < place →
        Ahead s all t (set_outs position tree assigned first (place - first)) →
        Over t (setting_out position tree.company (reached_in tree) (node_from tree assigned (place - 1))) false u
        → Over s all false u
    up_ends s t u first place all low ahead walk =
        ends_on_way s t u all (setting_out position tree.company (reached_in tree)
        (node_from tree assigned (place - 1))) (set_outs position tree assigned first (place - 1 - first))
        (subst (λ (l : List Node). Ahead s all t l) (last_out first place low) ahead) walk

    pub up_whole : (s t : S) (first place : ℕ) (all : List Node) → place ≤ first
        → Ahead s all t (set_outs position tree assigned first (place - first)) → Over s all true t
    up_whole s t first place all high ahead =
        let e : place - first ≡ 0 = omega arith in
        goes_to_end s t all (set_outs position tree assigned first (place - first))
        (ap (set_outs position tree assigned first) e) ahead
