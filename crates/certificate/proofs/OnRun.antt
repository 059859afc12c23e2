-- What a walk knows once it has taken a step, and what the children are there.
use Rattle.std.proofs.Common.{◌≡◌, ℕ, suc, ◌+◌, ◌-◌, ◌<◌, ◌≤◌, nat_lt, Bool, true, false, not, ◌&&◌, ◌||◌, Option, Some}
use Rattle.std.proofs.Common.{None, is_some, option_map, replicate, List, [], ◌∷◌, ◌++◌, length, set, drop, refl, ap}
use Rattle.std.proofs.Common.{sym, ◌∙◌, subst, arith}
use Rattle.std.specs.List.{list_any}
use Rattle.std.proofs.lemmas.Bool.{ltb-true}
use Rattle.map_tables.specs.Border.{neighbour_of}
use Rattle.map_tables.specs.Side.{facing_of}
use Rattle.map_tables.specs.declared.hex.Hex.{Hex}
use Rattle.map_tables.specs.declared.place.Stop.{Stop}
use Rattle.map_tables.specs.declared.place.StopNumber.{StopNumber}
use Rattle.map_tables.specs.declared.side.Side.{Side}
use Rattle.map_tables.specs.declared.track.TrackEnd.{TrackEnd}
use Rattle.map_tables.specs.declared.track.TrackEnd.TheVariants.{Side as AtSide, Stop as AtStop}
use Rattle.reach.specs.Lawful.{IsLawful}
use Rattle.reach.specs.Position.{Position, is_red, value_of}
use Rattle.reach.specs.Reached.{stop_order}
use Rattle.reach.specs.Walk.{across, across_end, entered_at, left_at, spot_at, stop_at_end, stop_of}
use Rattle.reach.specs.declared.walk.Spot.{Spot}
use Rattle.reach.specs.declared.walk.WalkStep.{WalkStep}
use Rattle.reach.proofs.Spots.{order_low}
use Rattle.tables.specs.Train.{stops_of}
use Rattle.tables.specs.declared.rolling_stock.Kind.{Kind}
use Rattle.legal_runs.specs.Fault.{has_border, has_stop, has_token_at_stop, is_full}
use Rattle.legal_runs.specs.Legal.{border_at, border_of, crossed, listed, visited, worth}
use Rattle.legal_runs.specs.Set.{TrainRun, revenue_of_runs}
use Rattle.legal_runs.proofs.TwoTrain.{no_border}
use Rattle.certificate.specs.Tree.{Node, children, finishing, from_border, from_head, from_stop, goes_over, gone_over}
use Rattle.certificate.specs.Tree.{is_free_end, is_last_stop, is_new_stop, may_all_earn, node_if, node_of, run_borders}
use Rattle.certificate.specs.Tree.{taken_borders, with_steps, steps_at}
use Rattle.certificate.specs.Walked.{capped}
use Rattle.certificate.specs.Walking.{AreCrossed, Continues, IsOnRun, IsBetweenRuns, earned_from, is_none_left}
use Rattle.certificate.specs.Walking.{kind_from, may_take, node_at, node_from, reached_in, still_left, trains_of_tree}
use Rattle.certificate.specs.declared.tree.Tree.{Tree}
use Rattle.certificate.specs.declared.tree_walk.Begun.{Begun}
use Rattle.certificate.proofs.Branching.{border_both}
use Rattle.certificate.proofs.Places.{earned_is, kind_is}
use Rattle.certificate.proofs.Walking.{crossed_more, none_visited, one_fewer, one_left, used_up_is, value_more}
use Rattle.certificate.proofs.Walking.{visited_more}

-- a run sets out from a stop
pub out_continues : (start : Stop) (step : WalkStep) → stop_of (entered_at step) ≡ Some start
    → Continues [] (start ∷ []) step
out_continues start step is =
    record {
      visits = ap (λ (o : Option Stop). listed (stop_of (left_at step)) ++ (listed o ++ [])) is;
      crosses = ap (λ (b : List ℕ). border_at (left_at step).hex (left_at step).end ++ (b ++ []))
          (no_border (entered_at step).hex (entered_at step).end start is);
      same = λ side at_side.
          let none : stop_of (entered_at step) ≡ None = ap (stop_at_end (entered_at step).hex) at_side in
          let wrong : Some start ≡ None = sym is ∙ none in absurd cc;
    }

-- it goes on from a stop
pub stop_continues :
    (before : List WalkStep) (last : WalkStep) (stop : Stop) (step : WalkStep) → stop_of (left_at last) ≡ Some stop
    → stop_of (entered_at step) ≡ Some stop →
    Continues (last ∷ before) (visited (last ∷ before)) step
stop_continues before last stop step left is =
    let here : List ℕ = border_at (left_at step).hex (left_at step).end in
    record {
      visits = refl;
      crosses =
          ap (λ (b : List ℕ). here ++ (b ++ crossed (last ∷ before)))
          (no_border (entered_at step).hex (entered_at step).end stop is)
          ∙ ap (λ (b : List ℕ). here ++ (b ++ crossed (last ∷ before)))
          (sym (no_border (left_at last).hex (left_at last).end stop left));
      same = λ side at_side. refl;
    }

-- it goes on from a border
pub border_continues :
    (position : Position) → IsLawful position → (before : List WalkStep) (last : WalkStep) (beyond : Spot) (step : WalkStep)
    → across (left_at last) ≡ Some beyond → entered_at step ≡ beyond →
    Continues (last ∷ before) (visited (last ∷ before)) step
border_continues position lawful before last beyond step over is =
    let here : List ℕ = border_at (left_at step).hex (left_at step).end in
    let one : border_at (entered_at step).hex (entered_at step).end ≡ border_at (left_at last).hex (left_at last).end =
    ap (λ (s : Spot). border_at s.hex s.end) is ∙ sym
    (border_both position lawful (left_at last).hex (left_at last).end beyond over) in
    record {
      visits = refl;
      crosses = ap (λ (b : List ℕ). here ++ (b ++ crossed (last ∷ before))) one;
      same = λ side at_side. refl;
    }

-- tests of a step
pub no_beyond : (borders : List ℕ) (hex : Hex) (end : TrackEnd) → across_end hex end ≡ None
    → is_free_end borders hex end ≡ false
no_beyond borders hex (AtSide side) none = by_next (neighbour_of hex side) none
  where
    by_next :
        (next : Option Hex) → option_map (λ other. spot_at other (AtSide (facing_of side))) next ≡ None →
        (is_some next && not (has_border (border_of hex side) borders)) ≡ false
    by_next None is = refl
    by_next (Some other) is = cc
no_beyond borders hex (AtStop number) none = refl

pub both_false : (a b : Bool) → b ≡ true → (a && not b) ≡ false
both_false true b is = ap not is
both_false false b is = refl

pub not_free : (borders : List ℕ) (hex : Hex) (end : TrackEnd) (side : Side) → end ≡ AtSide side
    → has_border (border_of hex side) borders ≡ true → is_free_end borders hex end ≡ false
not_free borders hex end side is used =
    ap (is_free_end borders hex) is ∙ both_false (is_some (neighbour_of hex side))
    (has_border (border_of hex side) borders) used

pub is_free : (borders : List ℕ) (hex : Hex) (end : TrackEnd) (side : Side) (beyond : Spot) → end ≡ AtSide side
    → across_end hex end ≡ Some beyond → has_border (border_of hex side) borders ≡ false
    → is_free_end borders hex end ≡ true
is_free borders hex end side beyond is over free =
    ap (is_free_end borders hex) is ∙ by_next (neighbour_of hex side) (sym (ap (across_end hex) is) ∙ over)
  where
    by_next :
        (next : Option Hex) → option_map (λ other. spot_at other (AtSide (facing_of side))) next ≡ Some beyond →
        (is_some next && not (has_border (border_of hex side) borders)) ≡ true
    by_next None same = cc
    by_next (Some other) same = ap not free

-- a step to no stop may be taken where it leads over a border
pub takes_over : (reached : List Stop) (node : Node) (end : TrackEnd) (step : WalkStep) → stop_of (left_at step) ≡ None
    → may_take reached node end step ≡ goes_over (taken_borders node) step
takes_over reached node (AtSide side) step none =
    ap (λ (o : Option Stop). is_new_stop reached (visited node.begun) o || goes_over (taken_borders node) step) none
takes_over reached node (AtStop number) step none = refl

to_stop : (borders : List ℕ) (hex : Hex) (end : TrackEnd) (stop : Stop) → stop_at_end hex end ≡ Some stop
    → is_free_end borders hex end ≡ false
to_stop borders hex (AtSide side) stop is = cc
to_stop borders hex (AtStop number) stop is = refl

-- from a stop no step is taken to a stop
pub takes_no_stop : (reached : List Stop) (node : Node) (end : TrackEnd) (number : StopNumber) (step : WalkStep) (stop : Stop)
    → end ≡ AtStop number → stop_of (left_at step) ≡ Some stop → may_take reached node end step ≡ false
takes_no_stop reached node end number step stop at is =
    ap (λ (e : TrackEnd). may_take reached node e step) at
    ∙ to_stop (taken_borders node) (left_at step).hex (left_at step).end stop is

or_false : (a b : Bool) → b ≡ false → (a || b) ≡ a
or_false true b is = refl
or_false false b is = is

-- from a border one is taken to a reached stop that is not in the run
pub takes_stop :
    (reached : List Stop) (node : Node) (end : TrackEnd) (side : Side) (step : WalkStep) (stop : Stop) → end ≡ AtSide side
    → stop_of (left_at step) ≡ Some stop →
    may_take reached node end step ≡ (has_stop stop reached && not (has_stop stop (visited node.begun)))
takes_stop reached node end side step stop at is =
    ap (λ (e : TrackEnd). may_take reached node e step) at
    ∙ (ap (λ (o : Option Stop). is_new_stop reached (visited node.begun) o || goes_over (taken_borders node) step) is
    ∙ or_false (has_stop stop reached && not (has_stop stop (visited node.begun)))
    (goes_over (taken_borders node) step) (to_stop (taken_borders node) (left_at step).hex (left_at step).end stop
    is))

pub and_false : (a b : Bool) → a ≡ false → (a && not b) ≡ false
and_false true b is = cc
and_false false b is = refl

pub and_true : (a b : Bool) → a ≡ true → b ≡ false → (a && not b) ≡ true
and_true true b is free = ap not free
and_true false b is free = cc

module _ (position : Position) (tree : Tree) (begun : Begun) (used marks : List Bool) (assigned : List TrainRun)
    (steps : List WalkStep) (stops : List Stop) (at_node : IsOnRun position tree begun used marks assigned steps
    stops) where
  -- over a border
  pub on_run_over :
      (step : WalkStep) (side : Side) → Continues steps stops step → stop_of (left_at step) ≡ None
      → (left_at step).end ≡ AtSide side →
      border_of (left_at step).hex side < length used →
      IsOnRun position tree begun (set used (border_of (left_at step).hex side) true) marks assigned (step ∷ steps)
      (visited (step ∷ steps))
  on_run_over step side continues none at low =
      let border : ℕ = border_of (left_at step).hex side in
      let same : visited (step ∷ steps) ≡ stops = continues.visits ∙ ap (λ (o : Option Stop). listed o ++ stops) none in
      let over : gone_over (step ∷ steps) ≡ border ∷ gone_over steps =
      continues.crosses ∙ ap (λ (e : TrackEnd). border_at (left_at step).hex e ++ gone_over steps) at in
      subst (λ (all : List Stop). IsOnRun position tree begun (set used border true) marks assigned (step ∷ steps) all)
      (sym same)
      (record {
        tree_is = at_node.tree_is;
        crossed = subst (λ (all : List ℕ). AreCrossed (set used border true) (all ++ run_borders assigned)) (sym over)
            (crossed_more used border (gone_over steps ++ run_borders assigned) low at_node.crossed);
        seen = at_node.seen;
        some = at_node.some;
        value = at_node.value;
        later = at_node.later;
        within = at_node.within;
        left = at_node.left;
        own = at_node.own;
      })

  -- to a stop
  pub on_run_at_stop :
      (step : WalkStep) (stop : Stop) (here : Begun) → Continues steps stops step → stop_of (left_at step) ≡ Some stop
      → stop_order stop < length marks →
      here.kind ≡ begun.kind → here.next ≡ begun.next → here.later ≡ begun.later
      → here.value ≡ capped (begun.value + value_of position stop) →
      here.left ≡ option_map (λ n. n - 1) begun.left
      → here.own_token ≡ (has_token_at_stop position tree.company stop || begun.own_token) →
      IsOnRun position tree here used (set marks (stop_order stop) true) assigned (step ∷ steps)
      (visited (step ∷ steps))
  on_run_at_stop step stop here continues is low kind next later value left own =
      let same : visited (step ∷ steps) ≡ stop ∷ stops =
      continues.visits ∙ ap (λ (o : Option Stop). listed o ++ stops) is in
      let over : gone_over (step ∷ steps) ≡ gone_over steps =
      continues.crosses ∙ ap (λ (b : List ℕ). b ++ gone_over steps)
      (no_border (left_at step).hex (left_at step).end stop is) in
      subst (λ (all : List Stop). IsOnRun position tree here used (set marks (stop_order stop) true) assigned
      (step ∷ steps) all) (sym same)
      (record {
        tree_is = at_node.tree_is;
        crossed = subst (λ (all : List ℕ). AreCrossed used (all ++ run_borders assigned)) (sym over) at_node.crossed;
        seen = visited_more marks stop stops low at_node.seen;
        some = omega arith;
        value = value ∙ value_more begun.value (value_of position stop) (revenue_of_runs position assigned)
            (worth position stops) at_node.value;
        later = later ∙ (at_node.later ∙ ap (λ (n : ℕ). capped
            (may_all_earn position (reached_in tree) (drop n (trains_of_tree tree)))) (sym next));
        within = omega (arith, at_node.within, next);
        left =
            left ∙ (ap (option_map (λ n. n - 1)) at_node.left
            ∙ (one_fewer (stops_of begun.kind) (length stops)
            ∙ ap (λ (k : Kind). still_left (stops_of k) (suc (length stops))) (sym kind)));
        own = own ∙ ap (λ (b : Bool). has_token_at_stop position tree.company stop || b) at_node.own;
      })

  pub two_stops : (step : WalkStep) (stop : Stop) → Continues steps stops step → stop_of (left_at step) ≡ Some stop
      → 2 ≤ length (visited (step ∷ steps))
  two_stops step stop continues is =
      let same : visited (step ∷ steps) ≡ stop ∷ stops =
      continues.visits ∙ ap (λ (o : Option Stop). listed o ++ stops) is in
      omega (arith, ap length same, at_node.some)

-- the node is the same after a stop more
pub same_node : (tree : Tree) (here begun : Begun) (assigned : List TrainRun) (steps : List WalkStep)
    → here.kind ≡ begun.kind → here.next ≡ begun.next
    → node_at tree here assigned steps ≡ node_at tree begun assigned steps
same_node tree here begun assigned steps kind next =
    ap (λ (k : Kind). node_of assigned steps (k ∷ drop here.next (trains_of_tree tree))) kind
    ∙ ap (λ (n : ℕ). node_of assigned steps (begun.kind ∷ drop n (trains_of_tree tree))) next

-- the children with the head at a border
is_beyond : (hex : Hex) (end : TrackEnd) (beyond : Spot) → across_end hex end ≡ Some beyond
    → (side : Side) × (beyond.end ≡ AtSide side)
is_beyond hex (AtSide side) beyond is = by_next (neighbour_of hex side) is
  where
    by_next : (next : Option Hex) → option_map (λ other. spot_at other (AtSide (facing_of side))) next ≡ Some beyond
        → (far : Side) × (beyond.end ≡ AtSide far)
    by_next None none = absurd cc
    by_next (Some other) there = let same : spot_at other (AtSide (facing_of side)) ≡ beyond =
        cc in (facing_of side, ap (λ (s : Spot). s.end) (sym same))
is_beyond hex (AtStop number) beyond is = absurd cc

pub children_at_border :
    (position : Position) (tree : Tree) (begun : Begun) (assigned : List TrainRun) (steps : List WalkStep) (step : WalkStep)
    (beyond : Spot) →
    stop_of (left_at step) ≡ None → across (left_at step) ≡ Some beyond →
    children position tree.company (reached_in tree) (node_at tree begun assigned (step ∷ steps))
    ≡ with_steps (may_take (reached_in tree) (node_at tree begun assigned (step ∷ steps)) beyond.end)
    (node_at tree begun assigned (step ∷ steps)) (steps_at position beyond.hex beyond.end)
children_at_border position tree begun assigned steps step beyond none over =
    let node : Node = node_at tree begun assigned (step ∷ steps) in
    let later : List Kind = drop begun.next (trains_of_tree tree) in
    let far = is_beyond (left_at step).hex (left_at step).end beyond over in
    ap (from_head position tree.company (reached_in tree) node begun.kind later (left_at step)) none
    ∙ (ap (from_border position tree.company (reached_in tree) node) over
    ∙ ap (λ (e : TrackEnd). with_steps (may_take (reached_in tree) node e) node (steps_at position beyond.hex beyond.end))
    (sym far.1))

-- the children with the head at a stop
abbrev pub with_run : Begun → List TrainRun → List WalkStep → List TrainRun
with_run begun assigned steps = record { kind = begun.kind; steps = steps } ∷ assigned

pub children_at_stop :
    (position : Position) (tree : Tree) (begun : Begun) (assigned : List TrainRun) (steps : List WalkStep) (step : WalkStep)
    (stop : Stop) →
    stop_of (left_at step) ≡ Some stop →
    children position tree.company (reached_in tree) (node_at tree begun assigned (step ∷ steps))
    ≡ finishing position tree.company (reached_in tree) (node_at tree begun assigned (step ∷ steps)) begun.kind
    (drop begun.next (trains_of_tree tree))
    ++ from_stop position tree.company (reached_in tree) (node_at tree begun assigned (step ∷ steps)) begun.kind stop
children_at_stop position tree begun assigned steps step stop is =
    ap (from_head position tree.company (reached_in tree) (node_at tree begun assigned (step ∷ steps)) begun.kind
    (drop begun.next (trains_of_tree tree)) (left_at step)) is

two_is : (count : ℕ) (b : Bool) → nat_lt count 2 ≡ b → 2 ≤ count → b ≡ false
two_is count true is two = absurd (let low : count < 2 = ltb-true count 2 is in omega arith)
two_is count false is two = refl

pub finishing_is :
    (position : Position) (tree : Tree) (begun : Begun) (assigned : List TrainRun) (steps : List WalkStep) (own : Bool)
    → 2 ≤ length (visited steps) →
    own ≡ list_any (has_token_at_stop position tree.company) (visited steps) →
    finishing position tree.company (reached_in tree) (node_at tree begun assigned steps) begun.kind
    (drop begun.next (trains_of_tree tree))
    ≡ node_if own (node_from tree (with_run begun assigned steps) begun.next)
finishing_is position tree begun assigned steps own two is =
    let node : Node = node_from tree (with_run begun assigned steps) begun.next in
    let many : nat_lt (length (visited steps)) 2 ≡ false =
    two_is (length (visited steps)) (nat_lt (length (visited steps)) 2) refl two in
    ap (λ (b : Bool). node_if (not b && list_any (has_token_at_stop position tree.company) (visited steps)) node) many
    ∙ ap (λ (b : Bool). node_if b node) (sym is)

module _ (position : Position) (tree : Tree) (begun : Begun) (used marks : List Bool) (assigned : List TrainRun)
    (before : List WalkStep) (step : WalkStep) (stop : Stop)
    (at_node : IsOnRun position tree begun used marks assigned (step ∷ before) (visited (step ∷ before)))
    (at : stop_of (left_at step) ≡ Some stop) where
  pub is_last : is_last_stop position tree.company (reached_in tree) (node_at tree begun assigned (step ∷ before))
      begun.kind stop ≡ (is_red position stop || (is_full position tree.company stop || is_none_left begun.left))
  is_last =
      ap (λ (b : Bool). is_red position stop || (is_full position tree.company stop || b))
      (used_up_is (stops_of begun.kind) (length (visited (step ∷ before))) ∙ ap is_none_left (sym at_node.left))

  pub finished_is_between : IsBetweenRuns position tree begun.value (with_run begun assigned (step ∷ before))
  finished_is_between = record {
    tree_is = at_node.tree_is;
    earns =
        at_node.value ∙ ap capped (swapped (revenue_of_runs position assigned) (worth position (visited (step ∷ before))));
  }
    where
      swapped : (a b : ℕ) → a + b ≡ b + a
      swapped a b = omega arith

  pub finished_crossed : AreCrossed used (run_borders (with_run begun assigned (step ∷ before)))
  finished_crossed =
      subst (λ (b : List ℕ). AreCrossed used ((b ++ crossed (step ∷ before)) ++ run_borders assigned))
      (no_border (left_at step).hex (left_at step).end stop at) at_node.crossed

-- a run that has not left its first stop
pub on_run_from :
    (position : Position) (tree : Tree) (value place : ℕ) (used : List Bool) (assigned : List TrainRun) (kind : Kind)
    (stop : Stop) (begun : Begun) →
    IsBetweenRuns position tree value assigned → AreCrossed used (run_borders assigned)
    → place < length (trains_of_tree tree) → begun.kind ≡ kind →
    begun.next ≡ capped (place + 1) → begun.later ≡ capped (earned_from tree.groups (capped (place + 1)))
    → begun.value ≡ capped (value + value_of position stop) →
    begun.left ≡ option_map (λ n. n - 1) (stops_of kind)
    → begun.own_token ≡ (has_token_at_stop position tree.company stop || false) →
    IsOnRun position tree begun used (set (replicate 186 false) (stop_order stop) true) assigned [] (stop ∷ [])
on_run_from position tree value place used assigned kind stop begun at_node crossed low train next later amount left own
    =
    let fits = at_node.tree_is.fits in
    let here : capped (place + 1) ≡ place + 1 = omega arith in
    record {
      tree_is = at_node.tree_is;
      crossed = crossed;
      seen = visited_more (replicate 186 false) stop [] (omega (arith, order_low stop)) none_visited;
      some = omega arith;
      value = amount ∙ value_more value (value_of position stop) (revenue_of_runs position assigned) 0
          (at_node.earns ∙ ap capped (plus_none (revenue_of_runs position assigned)));
      later =
          later ∙ ap capped (sym (earned_is position (reached_in tree) tree.groups at_node.tree_is.earnings
          (capped (place + 1)))
          ∙ ap (λ (n : ℕ). may_all_earn position (reached_in tree) (drop n (trains_of_tree tree))) (sym next));
      within = omega (arith, next, here);
      left = left ∙ (one_left (stops_of kind) ∙ ap (λ (k : Kind). still_left (stops_of k) 1) (sym train));
      own = own;
    }
  where
    plus_none : (n : ℕ) → n ≡ n + 0
    plus_none n = omega arith

pub node_out :
    (position : Position) (tree : Tree) (value place : ℕ) (assigned : List TrainRun) (kind : Kind) (begun : Begun)
    → IsBetweenRuns position tree value assigned →
    place < length (trains_of_tree tree) → kind_from tree.groups place ≡ Some kind → begun.kind ≡ kind
    → begun.next ≡ capped (place + 1) →
    node_from tree assigned place ≡ node_at tree begun assigned []
node_out position tree value place assigned kind begun at_node low is train next =
    let fits = at_node.tree_is.fits in
    let here : place + 1 ≡ capped (place + 1) = omega arith in
    ap (node_of assigned []) (kind_is tree.groups place kind is
    ∙ (ap (λ (n : ℕ). kind ∷ drop n (trains_of_tree tree)) (here ∙ sym next)
    ∙ ap (λ (k : Kind). k ∷ drop begun.next (trains_of_tree tree)) (sym train)))

-- the marks are as they were
pub same_state :
    (position : Position) (tree : Tree) (begun : Begun) (used marks others seen : List Bool) (assigned : List TrainRun)
    (steps : List WalkStep) (stops : List Stop) →
    others ≡ used → seen ≡ marks → IsOnRun position tree begun used marks assigned steps stops
    → IsOnRun position tree begun others seen assigned steps stops
same_state position tree begun used marks others seen assigned steps stops same also at_node =
    subst (λ (u : List Bool). IsOnRun position tree begun u seen assigned steps stops) (sym same)
    (subst (λ (m : List Bool). IsOnRun position tree begun used m assigned steps stops) (sym also) at_node)
