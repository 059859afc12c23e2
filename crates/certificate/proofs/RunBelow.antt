-- A legal run whose borders are free is a path down the tree: from where nothing is begun, step by
-- step, to where it is assigned.
use Rattle.std.proofs.Common.{◌≡◌, ℕ, suc, Bool, true, false, not, ltb, ◌||◌, ◌⊎◌, inl, inr, Option, Some, None, IfSome}
use Rattle.std.proofs.Common.{if◌then◌else◌, List, [], ◌∷◌, ◌++◌, length, refl, ap, sym, ◌∙◌, subst, arith}
use Rattle.std.specs.List.{list_any}
use Rattle.std.proofs.lemmas.Bool.{and_from, false_from_ne_true, lt-ltb, or_left, or_right, le-ltb}
use Rattle.map_tables.specs.Border.{neighbour_of}
use Rattle.map_tables.specs.declared.hex.Hex.{Hex}
use Rattle.map_tables.specs.declared.place.Stop.{Stop}
use Rattle.map_tables.specs.declared.side.Side.{Side}
use Rattle.map_tables.specs.declared.track.TrackEnd.{TrackEnd}
use Rattle.map_tables.specs.declared.track.TrackEnd.TheVariants.{Side as AtSide, Stop as AtStop}
use Rattle.reach.specs.Lawful.{IsLawful}
use Rattle.reach.specs.Position.{Position, HasToken, IsAmong, IsFull, is_red}
use Rattle.reach.specs.Reached.{ReachesStop}
use Rattle.reach.specs.Walk.{AreJoined, IsTrack, across, across_end, entered_at, left_at, stop_at_end, stop_of}
use Rattle.reach.specs.declared.walk.Spot.{Spot}
use Rattle.reach.specs.declared.walk.WalkStep.{WalkStep}
use Rattle.reach.proofs.Spots.{back}
use Rattle.tables.specs.Train.{stops_of}
use Rattle.tables.specs.declared.rolling_stock.Kind.{Kind}
use Rattle.tables.specs.declared.roster.Company.{Company}
use Rattle.legal_runs.specs.Fault.{has_stop, has_token_at_stop, is_full}
use Rattle.legal_runs.specs.Legal.{AreAtMost, AreDistinct, IsLegalRun, border_at, border_of, crossed, listed, visited}
use Rattle.legal_runs.specs.Set.{TrainRun}
use Rattle.certificate.specs.Tree.{IsBelow, Node, children, finishing, for_each, from_border, from_head, from_stop}
use Rattle.certificate.specs.Tree.{goes_over, gone_over, is_finished, is_last_stop, is_new_stop, is_used_up, leads_on}
use Rattle.certificate.specs.Tree.{node_of, run_borders, steps_at, steps_from, taken_borders, with_steps}
use Rattle.certificate.proofs.Branching.{LeadsOver, among_for_each, among_node_if, among_with_steps, border_both}
use Rattle.certificate.proofs.Branching.{over_leads, step_there, stop_left}
use Rattle.legal_runs.proofs.Joined.{fails, has_stop_is, such_has}
use Rattle.legal_runs.proofs.Marks.{among_both}
use Rattle.certificate.proofs.Nodes.{HasRoom, IsRunBegun, fewer_fit}
use Rattle.legal_runs.proofs.RunReached.{all_reached}
use Rattle.legal_runs.proofs.Tests.{has_token_is, is_full_is}
use Rattle.legal_runs.proofs.Written.{ordered, stop_to_stop}
use Rattle.legal_runs.proofs.TwoTrain.{no_border, others_distinct}

-- a child is below what its node is below
pub one_below :
    (position : Position) (company : Company) (reached : List Stop) (start node child : Node)
    → IsBelow position company reached start node →
    IsAmong child (children position company reached node) → IsBelow position company reached start child
one_below position company reached start node child below among = (
  child ∷ below.0,
  (
    subst (λ (n : Node). IsAmong child (children position company reached n)) (sym below.2) among,
    below.1,
  ),
  refl,
)

-- what comes after a stop that is listed, and after a border
distinct_after : (found : Option Stop) (stops : List Stop) → AreDistinct (listed found ++ stops) → AreDistinct stops
distinct_after None stops distinct = distinct
distinct_after (Some stop) stops distinct = distinct.1

-- a train that has visited a listed stop and others has room for one more than the others
fit_after :
    (kind : Kind) (hex : Hex) (end : TrackEnd) (stops : List Stop)
    → HasRoom kind (length (listed (stop_at_end hex end) ++ stops)) end →
    AreAtMost (stops_of kind) (suc (length stops))
fit_after kind hex (AtSide side) stops room = room
fit_after kind hex (AtStop number) stops room = room

room_for : (kind : Kind) (count : ℕ) (end : TrackEnd) → AreAtMost (stops_of kind) (suc count) → HasRoom kind count end
room_for kind count (AtSide side) fit = fit
room_for kind count (AtStop number) fit = fewer_fit (stops_of kind) count fit

not_used_up : (most : Option ℕ) (count : ℕ) → AreAtMost most (suc count) → is_used_up most count ≡ false
not_used_up None count fit = refl
not_used_up (Some most) count fit = ap not (lt-ltb count most (omega arith))

all_false : (a b c : Bool) → a ≡ false → b ≡ false → c ≡ false → (a || (b || c)) ≡ false
all_false true b c p q r = absurd cc
all_false false true c p q r = absurd cc
all_false false false c p q r = r

module _ (position : Position) (lawful : IsLawful position) (company : Company) (reached : List Stop)
    (assigned : List TrainRun) (kind : Kind) (later : List Kind) where
  abbrev base : Node
  base = node_of assigned [] (kind ∷ later)

  abbrev at : List WalkStep → Node
  at begun = node_of assigned begun (kind ∷ later)

  -- a run so far that can be finished as it is meant
  record IsPrefix (step : WalkStep) (before : List WalkStep) : Type 0 where
    begun : IsRunBegun position company kind (run_borders assigned) step before
    onward : stop_of (left_at step) ≡ None → (spot : Spot) × (across (left_at step) ≡ Some spot)
    there : (stop : Stop) → IsAmong stop (visited (step ∷ before)) → IsAmong stop reached

  -- the border between two steps
  joint_over : (spot other : Spot) → AreJoined spot other → border_at other.hex other.end ≡ border_at spot.hex spot.end
  joint_over spot other (inl joint) =
      no_border other.hex other.end joint.0 joint.2 ∙ sym (no_border spot.hex spot.end joint.0 joint.1)
  joint_over spot other (inr over) = sym (border_both position lawful spot.hex spot.end other over)

  joint_crossed :
      (step earlier : WalkStep) (more : List WalkStep) → AreJoined (left_at earlier) (entered_at step) →
      crossed (step ∷ earlier ∷ more) ≡ gone_over (earlier ∷ more)
  joint_crossed step earlier more joined =
      ap (λ (l : List ℕ). l ++ crossed (earlier ∷ more)) (joint_over (left_at earlier) (entered_at step) joined)

  -- one step less
  shorter : (step earlier : WalkStep) (more : List WalkStep) → IsPrefix step (earlier ∷ more) → IsPrefix earlier more
  shorter step earlier more prefix =
      let begun = prefix.begun in
      let joined : AreJoined (left_at earlier) (entered_at step) = begun.walk.1 in
      let gone : gone_over (step ∷ earlier ∷ more) ≡ border_at (left_at step).hex (left_at step).end
      ++ gone_over (earlier ∷ more) = ap (λ (l : List ℕ). border_at (left_at step).hex (left_at step).end ++ l)
      (joint_crossed step earlier more joined) in
      record {
        begun = record {
          walk = begun.walk.2;
          begins = begun.begins;
          stops = distinct_after (stop_of (left_at step)) (visited (earlier ∷ more)) begun.stops;
          once = others_distinct (left_at step).hex (left_at step).end (gone_over (earlier ∷ more))
              (subst (λ (l : List ℕ). AreDistinct l) gone begun.once);
          free = λ border among. begun.free border (subst (λ (l : List ℕ). IsAmong border l) (sym gone)
              ((among_both border (border_at (left_at step).hex (left_at step).end) (gone_over (earlier ∷ more))).1
              (inr among)));
          no_red = begun.no_red.1;
          no_full = begun.no_full.1;
          room = room_for kind (length (visited (earlier ∷ more))) (left_at earlier).end
              (fit_after kind (left_at step).hex (left_at step).end (visited (earlier ∷ more)) begun.room);
        };
        onward = goes_on joined;
        there = λ stop among. prefix.there stop ((among_both stop (listed (stop_of (left_at step)))
            (visited (earlier ∷ more))).1 (inr among));
      }
    where
      goes_on : AreJoined (left_at earlier) (entered_at step) → stop_of (left_at earlier) ≡ None
          → (spot : Spot) × (across (left_at earlier) ≡ Some spot)
      goes_on (inl joint) none = let wrong : None ≡ Some joint.0 = sym none ∙ joint.1 in absurd cc
      goes_on (inr over) none = (entered_at step, over)

  -- where a step does not lead to a stop it leads over a border
  record Over (hex : Hex) (end : TrackEnd) : Type 0 where
    side : Side
    next : Hex
    at_side : end ≡ AtSide side
    beside : neighbour_of hex side ≡ Some next

  over_found :
      (found : Option Hex) (hex : Hex) (side : Side) → neighbour_of hex side ≡ found → (spot : Spot)
      → across_end hex (AtSide side) ≡ Some spot →
      Over hex (AtSide side)
  over_found None hex side beside spot is =
      let none : across_end hex (AtSide side) ≡ None = across_none hex side beside in let wrong : None ≡ Some spot =
      sym none ∙ is in absurd cc
    where
      across_none : (hex : Hex) (side : Side) → neighbour_of hex side ≡ None → across_end hex (AtSide side) ≡ None
      across_none hex side beside = rw beside refl
  over_found (Some next) hex side beside spot is = record { side = side; next = next; at_side = refl; beside = beside }

  over_by : (hex : Hex) (end : TrackEnd) (spot : Spot) → across_end hex end ≡ Some spot → Over hex end
  over_by hex (AtSide side) spot is = over_found (neighbour_of hex side) hex side refl spot is
  over_by hex (AtStop number) spot is = absurd cc

  -- and the border is free
  over_free :
      (step : WalkStep) (before : List WalkStep) → IsPrefix step before → (borders : List ℕ) →
      ((border : ℕ) → IsAmong border borders → IsAmong border (crossed (step ∷ before))
      ⊎ IsAmong border (run_borders assigned)) →
      stop_of (left_at step) ≡ None → LeadsOver borders (left_at step).hex (left_at step).end
  over_free step before prefix borders parts none =
      let spot = prefix.onward none in
      let over : Over (left_at step).hex (left_at step).end =
      over_by (left_at step).hex (left_at step).end spot.0 spot.1 in
      let begun = prefix.begun in
      let gone : gone_over (step ∷ before) ≡ border_of (left_at step).hex over.side ∷ crossed (step ∷ before) =
      ap (λ (e : TrackEnd). border_at (left_at step).hex e ++ crossed (step ∷ before)) over.at_side in
      let once : AreDistinct (border_of (left_at step).hex over.side ∷ crossed (step ∷ before)) =
      subst (λ (l : List ℕ). AreDistinct l) gone begun.once in
      let free : ¬ IsAmong (border_of (left_at step).hex over.side) (run_borders assigned) =
      begun.free (border_of (left_at step).hex over.side)
      (subst (λ (l : List ℕ). IsAmong (border_of (left_at step).hex over.side) l) (sym gone) (inl refl)) in
      record {
        side = over.side;
        next = over.next;
        at_side = over.at_side;
        beside = over.beside;
        free = λ among. elim (parts (border_of (left_at step).hex over.side) among) [
          | inl here ↦ once.0 here
          | inr there ↦ free there
        ];
      }

  -- a step that enters at a stop leads over a border
  from_stop_over : (step : WalkStep) → IsTrack position step → (stop : Stop) → stop_of (entered_at step) ≡ Some stop
      → stop_of (left_at step) ≡ None
  from_stop_over step track stop is = by_ends (entered_at step).end (left_at step).end refl refl is
    where
      by_ends :
          (enters leaves : TrackEnd) → (entered_at step).end ≡ enters → (left_at step).end ≡ leaves
          → stop_at_end step.link.hex enters ≡ Some stop →
          stop_at_end step.link.hex (left_at step).end ≡ None
      by_ends (AtSide side) leaves e l is = absurd cc
      by_ends (AtStop n) (AtSide side) e l is = ap (stop_at_end step.link.hex) l
      by_ends (AtStop n) (AtStop m) e l is = absurd (stop_to_stop step.link step.turned n m
          (ordered position lawful step track) e l)

  -- the first step
  first_child : (step : WalkStep) → IsPrefix step [] → IsAmong (at (step ∷ [])) (children position company reached base)
  first_child step prefix =
      let begun = prefix.begun in
      let stop : Stop = begun.begins.0 in
      let enters : stop_of (entered_at step) ≡ Some stop = begun.begins.1 in
      let none : stop_of (left_at step) ≡ None = from_stop_over step begun.walk.0 stop enters in
      let among : IsAmong stop reached = prefix.there stop
      ((among_both stop (listed (stop_of (left_at step))) (listed (stop_of (entered_at step)) ++ [])).1
      (inr ((among_both stop (listed (stop_of (entered_at step))) []).1
      (inl (subst (λ (s : Option Stop). IsAmong stop (listed s)) (sym enters) (inl refl)))))) in
      inr (among_with_steps (goes_over (taken_borders base)) base (for_each (steps_from position) reached) step
      (among_for_each (steps_from position) reached stop step among
      (stop_left position lawful stop step begun.walk.0 enters))
      (over_leads (taken_borders base) (left_at step).hex (left_at step).end
      (over_free step [] prefix (run_borders assigned) (λ border here. inr here) none)))

  -- a later one
  module _ (step earlier : WalkStep) (more : List WalkStep) (prefix : IsPrefix step (earlier ∷ more)) where
    abbrev run : List WalkStep
    run = earlier ∷ more

    -- what was crossed before it
    taken_before :
        (border : ℕ) → IsAmong border (gone_over run ++ run_borders assigned) →
        IsAmong border (crossed (step ∷ run)) ⊎ IsAmong border (run_borders assigned)
    taken_before border among =
        let begun = prefix.begun in
        elim ((among_both border (gone_over run) (run_borders assigned)).0 among) [
          | inl here ↦ inl (subst (λ (l : List ℕ). IsAmong border l)
              (sym (joint_crossed step earlier more begun.walk.1)) here)
          | inr there ↦ inr there
        ]

    leads_further : (found : Option Stop) → stop_of (left_at step) ≡ found → leads_on reached (at run) step ≡ true
    leads_further None is =
        or_right (is_new_stop reached (visited run) (stop_of (left_at step)))
        (goes_over (gone_over run ++ run_borders assigned) step)
        (over_leads (gone_over run ++ run_borders assigned) (left_at step).hex (left_at step).end
        (over_free step run prefix (gone_over run ++ run_borders assigned) taken_before is))
    leads_further (Some stop) is =
        let begun = prefix.begun in
        let stops : AreDistinct (stop ∷ visited run) =
        subst (λ (s : Option Stop). AreDistinct (listed s ++ visited run)) is begun.stops in
        let among : IsAmong stop reached = prefix.there stop
        (subst (λ (s : Option Stop). IsAmong stop (listed s ++ visited run)) (sym is) (inl refl)) in
        or_left (is_new_stop reached (visited run) (stop_of (left_at step)))
        (goes_over (gone_over run ++ run_borders assigned) step)
        (subst (λ (s : Option Stop). is_new_stop reached (visited run) s ≡ true) (sym is)
        (and_from (has_stop stop reached) (not (has_stop stop (visited run))) ((has_stop_is stop reached).1 among)
        (ap not ((fails (has_stop stop (visited run)) (has_stop_is stop (visited run))).1 stops.0))))

    over_side : across (left_at earlier) ≡ Some (entered_at step)
        → IsAmong (at (step ∷ run)) (children position company reached (at run))
    over_side over =
        let begun = prefix.begun in
        let there : (across (entered_at step) ≡ Some (left_at earlier)) × (stop_of (entered_at step) ≡ None) =
        back position lawful (left_at earlier) (entered_at step) over in
        let here : (across (left_at earlier) ≡ Some (entered_at step)) × (stop_of (left_at earlier) ≡ None) =
        back position lawful (entered_at step) (left_at earlier) there.0 in
        subst (λ (s : Option Stop). IsAmong (at (step ∷ run))
        (from_head position company reached (at run) kind later (left_at earlier) s)) (sym here.1)
        (subst (λ (s : Option Spot). IsAmong (at (step ∷ run)) (from_border position company reached (at run) s))
        (sym over)
        (among_with_steps (leads_on reached (at run)) (at run)
        (steps_at position (entered_at step).hex (entered_at step).end) step
        (step_there position lawful step begun.walk.0) (leads_further (stop_of (left_at step)) refl)))

    through_stop :
        (stop : Stop) → stop_of (left_at earlier) ≡ Some stop → stop_of (entered_at step) ≡ Some stop →
        IsAmong (at (step ∷ run)) (children position company reached (at run))
    through_stop stop is enters =
        let begun = prefix.begun in
        let none : stop_of (left_at step) ≡ None = from_stop_over step begun.walk.0 stop enters in
        let not_red : is_red position stop ≡ false = false_from_ne_true (is_red position stop)
        (subst (λ (s : Option Stop). IfSome s (λ t. ¬ (is_red position t ≡ true))) enters begun.no_red.0) in
        let not_full : is_full position company stop ≡ false =
        (fails (is_full position company stop) (is_full_is position company stop)).1
        (subst (λ (s : Option Stop). IfSome s (λ t. ¬ IsFull position t company)) enters begun.no_full.0) in
        let room : is_used_up (stops_of kind) (length (visited run)) ≡ false =
        not_used_up (stops_of kind) (length (visited run))
        (fit_after kind (left_at step).hex (left_at step).end (visited run) begun.room) in
        let goes : is_last_stop position company reached (at run) kind stop ≡ false =
        all_false (is_red position stop) (is_full position company stop)
        (is_used_up (stops_of kind) (length (visited run))) not_red not_full room in
        let steps : List Node = with_steps (goes_over (taken_borders (at run))) (at run) (steps_from position stop) in
        subst (λ (s : Option Stop). IsAmong (at (step ∷ run))
        (from_head position company reached (at run) kind later (left_at earlier) s)) (sym is)
        ((among_both (at (step ∷ run)) (finishing position company reached (at run) kind later)
        (from_stop position company reached (at run) kind stop)).1
        (inr (subst (λ (b : Bool). IsAmong (at (step ∷ run)) (if b then [] else steps)) (sym goes)
        (among_with_steps (goes_over (taken_borders (at run))) (at run) (steps_from position stop) step
        (stop_left position lawful stop step begun.walk.0 enters)
        (over_leads (gone_over run ++ run_borders assigned) (left_at step).hex (left_at step).end
        (over_free step run prefix (gone_over run ++ run_borders assigned) taken_before none))))))

    later_child : AreJoined (left_at earlier) (entered_at step)
        → IsAmong (at (step ∷ run)) (children position company reached (at run))
    later_child (inl joint) = through_stop joint.0 joint.1 joint.2
    later_child (inr over) = over_side over

  -- all the way
  run_begun :
      (start : Node) → IsBelow position company reached start base → (step : WalkStep) (before : List WalkStep)
      → IsPrefix step before →
      IsBelow position company reached start (at (step ∷ before))
  run_begun start below step [] prefix =
      one_below position company reached start base (at (step ∷ [])) below (first_child step prefix)
  run_begun start below step (earlier ∷ more) prefix =
      one_below position company reached start (at (earlier ∷ more)) (at (step ∷ earlier ∷ more))
      (run_begun start below earlier more (shorter step earlier more prefix))
      (later_child step earlier more prefix (joint step earlier more prefix))
    where
      joint : (step earlier : WalkStep) (more : List WalkStep) → IsPrefix step (earlier ∷ more)
          → AreJoined (left_at earlier) (entered_at step)
      joint step earlier more prefix = let begun = prefix.begun in begun.walk.1

  -- and assigned
  abbrev done : List WalkStep → Node
  done steps = node_of (record { kind = kind; steps = steps } ∷ assigned) [] later

  module _ (exactly : (stop : Stop) → ReachesStop position company stop → IsAmong stop reached) where
    whole :
        (step : WalkStep) (before : List WalkStep) → IsLegalRun position company kind [] (step ∷ before) →
        ((border : ℕ) → IsAmong border (crossed (step ∷ before)) → ¬ IsAmong border (run_borders assigned))
        → IsPrefix step before
    whole step before legal free =
        let gone : gone_over (step ∷ before) ≡ crossed (step ∷ before) =
        ap (λ (l : List ℕ). l ++ crossed (step ∷ before))
        (no_border (left_at step).hex (left_at step).end legal.ends.0 legal.ends.1) in
        record {
          begun = record {
            walk = legal.walk;
            begins = legal.begins;
            stops = legal.no_stop_twice;
            once = subst (λ (l : List ℕ). AreDistinct l) (sym gone) legal.no_border_twice;
            free = λ border among. free border (subst (λ (l : List ℕ). IsAmong border l) gone among);
            no_red = legal.no_red_inside;
            no_full = legal.no_full_inside;
            room = at_its_end (left_at step).end legal.ends.1;
          };
          onward = λ none. let wrong : None ≡ Some legal.ends.0 = sym none ∙ legal.ends.1 in absurd cc;
          there = λ stop among. exactly stop (all_reached position lawful company (step ∷ before) legal.walk
              legal.no_full_inside legal.own_token stop among);
        }
      where
        at_its_end : (end : TrackEnd) → stop_at_end step.link.hex end ≡ Some legal.ends.0
            → HasRoom kind (length (visited (step ∷ before))) end
        at_its_end (AtSide side) is = absurd cc
        at_its_end (AtStop number) is = legal.most

    pub run_below :
        (start : Node) → IsBelow position company reached start base → (steps : List WalkStep)
        → IsLegalRun position company kind [] steps →
        ((border : ℕ) → IsAmong border (crossed steps) → ¬ IsAmong border (run_borders assigned))
        → IsBelow position company reached start (done steps)
    run_below start below [] legal free = absurd legal.begins
    run_below start below (step ∷ before) legal free =
        one_below position company reached start (at (step ∷ before)) (done (step ∷ before))
        (run_begun start below step before (whole step before legal free))
        (subst (λ (s : Option Stop). IsAmong (done (step ∷ before))
        (from_head position company reached (at (step ∷ before)) kind later (left_at step) s)) (sym legal.ends.1)
        ((among_both (done (step ∷ before)) (finishing position company reached (at (step ∷ before)) kind later)
        (from_stop position company reached (at (step ∷ before)) kind legal.ends.0)).1
        (inl (among_node_if (is_finished position company reached (visited (step ∷ before))) (done (step ∷ before))
        (and_from (not (ltb (length (visited (step ∷ before))) 2))
        (list_any (has_token_at_stop position company) (visited (step ∷ before)))
        (ap not (le-ltb (length (visited (step ∷ before))) 2 legal.two))
        (such_has (λ stop. HasToken position stop company) (has_token_at_stop position company)
        (has_token_is position company) (visited (step ∷ before)) legal.own_token))))))
