-- What holds at each node of the choice tree. Its assigned runs are legal and share no border. The
-- run begun could be finished as a legal one. The trains that ran and those to come are no more
-- than there are. Each choice keeps it, and has no greater bound.
use Rattle.std.proofs.Common.{◌≡◌, ℕ, suc, ◌+◌, ◌<◌, ◌≤◌, Bool, true, false, not, ltb, ◌||◌, inl, inr}
use Rattle.std.proofs.Common.{Option, Some, None, IfSome, if◌then◌else◌, List, [], ◌∷◌, ◌++◌, length, refl, ap, sym}
use Rattle.std.proofs.Common.{◌∙◌, subst, arith}
use Rattle.std.specs.List.{AllByRecursion, list_any}
use Rattle.std.proofs.lemmas.Bool.{and_parts, ltb-false, ltb-true, not-true, or_cases, or_parts}
use Rattle.map_tables.specs.Place.{joined_stop_of}
use Rattle.map_tables.specs.declared.hex.Hex.{Hex}
use Rattle.map_tables.specs.declared.place.Stop.{Stop}
use Rattle.map_tables.specs.declared.track.TrackEnd.{TrackEnd}
use Rattle.map_tables.specs.declared.track.TrackEnd.TheVariants.{Side as AtSide, Stop as AtStop}
use Rattle.reach.specs.Lawful.{IsLawful}
use Rattle.reach.specs.Position.{Position, HasToken, IsAmong, IsFull, is_red}
use Rattle.reach.specs.Walk.{AreJoined, BeginsAt, IsTrack, IsWalk, PassesOnly, across, entered_at, left_at, stop_at_end}
use Rattle.reach.specs.Walk.{stop_of}
use Rattle.reach.specs.declared.walk.Spot.{Spot}
use Rattle.reach.specs.declared.walk.WalkStep.{WalkStep}
use Rattle.reach.proofs.Spots.{back, names_itself}
use Rattle.tables.specs.Train.{stops_of}
use Rattle.tables.specs.declared.rolling_stock.Kind.{Kind}
use Rattle.tables.specs.declared.rolling_stock.Kind.TheVariants.{Two, Three, Four, Five, Six, Diesel}
use Rattle.tables.specs.declared.roster.Company.{Company}
use Rattle.legal_runs.specs.Fault.{has_stop, has_token_at_stop, is_full}
use Rattle.legal_runs.specs.Legal.{AreAtMost, AreDistinct, border_at, border_of, crossed, listed, visited, worth}
use Rattle.legal_runs.specs.Set.{AreApart, RunsLegally, ShareNoBorder, TrainRun, in_number, revenue_of_runs}
use Rattle.legal_runs.specs.Set.{trains_that_run}
use Rattle.certificate.specs.Tree.{Node, bound, with_steps, choices_at, finishing, from_border, from_head, from_stop}
use Rattle.certificate.specs.Tree.{goes_over, gone_over, is_finished, is_last_stop, is_new_stop, is_used_up, leads_on}
use Rattle.certificate.specs.Tree.{may_all_earn, may_come, may_earn, node_of, run_borders, setting_out, taken_borders}
use Rattle.certificate.specs.Tree.{steps_at, steps_from, for_each}
use Rattle.certificate.proofs.Bounds.{one_stop_more}
use Rattle.certificate.proofs.Branching.{IsWay, LeadsOver, Leaves, border_both, for_each_among, leads_over, leaves_stop}
use Rattle.certificate.proofs.Branching.{node_if_among, step_is, with_steps_among}
use Rattle.legal_runs.proofs.Joined.{fails, has_stop_is, has_such}
use Rattle.legal_runs.proofs.Marks.{among_both}
use Rattle.legal_runs.proofs.Tests.{has_token_is, is_full_is}
use Rattle.legal_runs.proofs.TwoTrain.{no_border, free_of_none}

-- a train that has visited this many stops has room: for one more where its head is at a border
abbrev pub HasRoom : Kind → ℕ → TrackEnd → Type 0
HasRoom kind count (AtSide side) = AreAtMost (stops_of kind) (suc count)
HasRoom kind count (AtStop number) = AreAtMost (stops_of kind) count

-- a run that is begun keeps all that a legal run must keep, so far
pub record IsRunBegun (position : Position) (company : Company) (kind : Kind) (borders : List ℕ) (step : WalkStep)
    (before : List WalkStep) : Type 0 where
  pub walk : IsWalk position (step ∷ before)
  pub begins : BeginsAt (λ stop. Unit {0}) (step ∷ before)
  pub stops : AreDistinct (visited (step ∷ before))
  pub once : AreDistinct (gone_over (step ∷ before))
  pub free : (border : ℕ) → IsAmong border (gone_over (step ∷ before)) → ¬ IsAmong border borders
  pub no_red : PassesOnly (λ stop. ¬ (is_red position stop ≡ true)) (step ∷ before)
  pub no_full : PassesOnly (λ stop. ¬ IsFull position stop company) (step ∷ before)
  pub room : HasRoom kind (length (visited (step ∷ before))) (left_at step).end

abbrev pub IsBegun : Position → Company → Kind → List ℕ → List WalkStep → Type 0
IsBegun position company kind borders [] = Unit {0}
IsBegun position company kind borders (step ∷ before) = IsRunBegun position company kind borders step before

abbrev pub IsInHand : Position → Company → List ℕ → List WalkStep → List Kind → Type 0
IsInHand position company borders begun [] = begun ≡ []
IsInHand position company borders begun (kind ∷ later) = IsBegun position company kind borders begun

-- what holds at a node, where these are all trains
pub record IsGood (position : Position) (company : Company) (all : List Kind) (assigned : List TrainRun)
    (begun : List WalkStep) (trains : List Kind) : Type 0 where
  pub legal : AllByRecursion (RunsLegally position company) assigned
  pub apart : AreApart assigned
  pub taken : (kind : Kind) → in_number kind (trains_that_run assigned) + in_number kind trains ≤ in_number kind all
  pub in_hand : IsInHand position company (run_borders assigned) begun trains

abbrev pub IsGoodNode : Position → Company → List Kind → Node → Type 0
IsGoodNode position company all node = IsGood position company all node.assigned node.begun node.trains

-- each train may visit two stops
two_fit : (kind : Kind) → AreAtMost (stops_of kind) 2
two_fit Two = omega arith
two_fit Three = omega arith
two_fit Four = omega arith
two_fit Five = omega arith
two_fit Six = omega arith
two_fit Diesel = tt

pub fewer_fit : (most : Option ℕ) (count : ℕ) → AreAtMost most (suc count) → AreAtMost most count
fewer_fit None count fit = tt
fewer_fit (Some most) count fit = omega arith

room_left : (most : Option ℕ) (count : ℕ) → is_used_up most count ≡ false → AreAtMost most (suc count)
room_left None count is = tt
room_left (Some most) count is = by_test (ltb count most) refl is
  where
    by_test : (b : Bool) → ltb count most ≡ b → not b ≡ false → suc count ≤ most
    by_test true less is = let low : count < most = ltb-true count most less in omega arith
    by_test false less is = absurd cc

-- a stop at an end is no side
stop_none : (hex : Hex) (end : TrackEnd) (borders : List ℕ) → LeadsOver borders hex end → stop_at_end hex end ≡ None
stop_none hex end borders over = ap (stop_at_end hex) over.at_side

room_over :
    (kind : Kind) (count : ℕ) (hex : Hex) (end : TrackEnd) (borders : List ℕ) → LeadsOver borders hex end
    → AreAtMost (stops_of kind) (suc count) →
    HasRoom kind count end
room_over kind count hex end borders over fit = subst (HasRoom kind count) (sym over.at_side) fit

room_at_stop :
    (kind : Kind) (count : ℕ) (hex : Hex) (end : TrackEnd) (stop : Stop) → stop_at_end hex end ≡ Some stop
    → AreAtMost (stops_of kind) count →
    HasRoom kind count end
room_at_stop kind count hex (AtSide side) stop is fit = absurd cc
room_at_stop kind count hex (AtStop number) stop is fit = fit

stop_had_room :
    (kind : Kind) (count : ℕ) (hex : Hex) (end : TrackEnd) (stop : Stop) → stop_at_end hex end ≡ Some stop
    → HasRoom kind count end →
    AreAtMost (stops_of kind) count
stop_had_room kind count hex (AtSide side) stop is room = absurd cc
stop_had_room kind count hex (AtStop number) stop is room = room

side_had_room : (kind : Kind) (count : ℕ) (hex : Hex) (end : TrackEnd) → stop_at_end hex end ≡ None
    → HasRoom kind count end → AreAtMost (stops_of kind) (suc count)
side_had_room kind count hex (AtSide side) is room = room
side_had_room kind count hex (AtStop number) is room = absurd cc

-- the border at an end that leads over it
over_border : (hex : Hex) (end : TrackEnd) (borders : List ℕ) (over : LeadsOver borders hex end)
    → border_at hex end ≡ border_of hex over.side ∷ []
over_border hex end borders over = ap (border_at hex) over.at_side

-- what is taken of a stop that is new
record IsNew (reached stops : List Stop) (stop : Stop) : Type 0 where
  there : IsAmong stop reached
  no_other : has_stop stop stops ≡ false

new_stop :
    (reached stops : List Stop) (found : Option Stop) → is_new_stop reached stops found ≡ true →
    (stop : Stop) × (found ≡ Some stop) × IsNew reached stops stop
new_stop reached stops None is = absurd cc
new_stop reached stops (Some stop) is =
    let parts = and_parts (has_stop stop reached) (not (has_stop stop stops)) is in (
      stop,
      refl,
      record {
        there = (has_stop_is stop reached).0 parts.0;
        no_other =
            not-true (has_stop stop stops) parts.1;
      },
    )

-- what trains may earn that have not begun
none_in_hand : (position : Position) (reached : List Stop) (trains : List Kind)
    → may_come position reached [] trains ≡ may_all_earn position reached trains
none_in_hand position reached [] = refl
none_in_hand position reached (kind ∷ later) = omega arith

pub none_begun : (position : Position) (company : Company) (borders : List ℕ) (trains : List Kind)
    → IsInHand position company borders [] trains
none_begun position company borders [] = refl
none_begun position company borders (kind ∷ later) = tt

-- a run shares no border with assigned ones whose borders are free of its own
shares_none :
    (steps : List WalkStep) (runs : List TrainRun) → ((border : ℕ) → IsAmong border (crossed steps)
    → ¬ IsAmong border (run_borders runs)) →
    AllByRecursion (λ (other : TrainRun). ShareNoBorder steps other.steps) runs
shares_none steps [] free = tt
shares_none steps (run ∷ runs) free = (
  λ border among here. free border among ((among_both border (crossed run.steps) (run_borders runs)).1 (inl here)),
  shares_none steps runs (λ border among later. free border among
      ((among_both border (crossed run.steps) (run_borders runs)).1 (inr later))),
)

module _ (position : Position) (lawful : IsLawful position) (company : Company) (reached : List Stop)
    (named : (stop : Stop) → IsAmong stop reached → joined_stop_of stop ≡ stop) (all : List Kind) where
  -- a choice is good, and its bound no greater
  pub record IsGoodChoice (assigned : List TrainRun) (begun : List WalkStep) (trains : List Kind) (child : Node) : Type
      0 where
    pub good : IsGoodNode position company all child
    pub falls : bound position reached child ≤ bound position reached (node_of assigned begun trains)

  module _ (assigned : List TrainRun) (kind : Kind) (later : List Kind) where
    -- no run for this train
    no_run : IsGood position company all assigned [] (kind ∷ later)
        → IsGoodChoice assigned [] (kind ∷ later) (node_of assigned [] later)
    no_run good =
        record {
          good = record {
            legal = good.legal;
            apart = good.apart;
            taken = λ k. omega (arith, good.taken k);
            in_hand = none_begun position company (run_borders assigned) later;
          };
          falls = omega (arith, none_in_hand position reached later);
        }

    -- a run that leaves a stop
    first_visited : (stop : Stop) (step : WalkStep) → stop_of (entered_at step) ≡ Some stop
        → stop_of (left_at step) ≡ None → visited (step ∷ []) ≡ stop ∷ []
    first_visited stop step enters leaves =
        ap (λ (l : Option Stop). listed l ++ (listed (stop_of (entered_at step)) ++ [])) leaves
        ∙ ap (λ (e : Option Stop). listed e ++ []) enters

    first_gone :
        (stop : Stop) (step : WalkStep) → stop_of (entered_at step) ≡ Some stop →
        (over : LeadsOver (taken_borders (node_of assigned [] (kind ∷ later))) (left_at step).hex (left_at step).end) →
        gone_over (step ∷ []) ≡ border_of (left_at step).hex over.side ∷ []
    first_gone stop step enters over =
        ap (λ (l : List ℕ). l ++ (border_at (entered_at step).hex (entered_at step).end ++ []))
        (over_border (left_at step).hex (left_at step).end _ over)
        ∙ ap (λ (e : List ℕ). border_of (left_at step).hex over.side ∷ (e ++ []))
        (no_border (entered_at step).hex (entered_at step).end stop enters)

    set_out :
        IsGood position company all assigned [] (kind ∷ later) → (stop : Stop) → IsAmong stop reached → (step : WalkStep) →
        Leaves position lawful stop step → LeadsOver (run_borders assigned) (left_at step).hex (left_at step).end →
        IsGoodChoice assigned [] (kind ∷ later) (node_of assigned (step ∷ []) (kind ∷ later))
    set_out good stop there step leaves over =
        let none : stop_of (left_at step) ≡ None = stop_none (left_at step).hex (left_at step).end
        (run_borders assigned) over in
        let stops : visited (step ∷ []) ≡ stop ∷ [] = first_visited stop step leaves.from_stop none in
        let gone : gone_over (step ∷ []) ≡ border_of (left_at step).hex over.side ∷ [] =
        first_gone stop step leaves.from_stop over in
        record {
          good = record {
            legal = good.legal;
            apart = good.apart;
            taken = good.taken;
            in_hand = record {
              walk = (leaves.track, tt, tt);
              begins = (stop, leaves.from_stop, tt);
              stops = subst (λ (l : List Stop). AreDistinct l) (sym stops) (λ h. h, tt);
              once = subst (λ (l : List ℕ). AreDistinct l) (sym gone) (λ h. h, tt);
              free = λ border among. elim (subst (λ (l : List ℕ). IsAmong border l) gone among) [
                | inl is ↦ subst (λ (b : ℕ). ¬ IsAmong b (run_borders assigned)) is over.free
                | inr wrong ↦ absurd wrong
              ];
              no_red = (tt, tt);
              no_full = (tt, tt);
              room = subst (λ (l : List Stop). HasRoom kind (length l) (left_at step).end) (sym stops)
                  (room_over kind 1 (left_at step).hex (left_at step).end (run_borders assigned) over (two_fit kind));
            };
          };
          falls =
              subst (λ (l : List Stop). revenue_of_runs position assigned
              + (worth position l + (may_earn position reached kind l + may_all_earn position reached later))
              ≤ bound position reached (node_of assigned [] (kind ∷ later))) (sym stops)
              (omega (
                arith,
                one_stop_more position stop [] kind reached refl there
                    (fewer_fit (stops_of kind) 1 (two_fit kind)),
              ));
        }

    setting_out_good :
        IsGood position company all assigned [] (kind ∷ later) → (child : Node) →
        IsAmong child (setting_out position company reached (node_of assigned [] (kind ∷ later)))
        → IsGoodChoice assigned [] (kind ∷ later) child
    setting_out_good good child among =
        let node = node_of assigned [] (kind ∷ later) in
        let found = with_steps_among (goes_over (taken_borders node)) node (for_each (steps_from position) reached)
        child among in
        let from = for_each_among (steps_from position) reached found.0 found.1 in
        subst (IsGoodChoice assigned [] (kind ∷ later)) found.3
        (set_out good from.0 from.1 found.0 (leaves_stop position lawful from.0 (named from.0 from.1) found.0 from.2)
        (leads_over (run_borders assigned) (left_at found.0).hex (left_at found.0).end found.2))

    module _ (step : WalkStep) (before : List WalkStep) (good : IsGood position company all assigned (step ∷ before)
        (kind ∷ later)) where
      abbrev run : List WalkStep
      run = step ∷ before

      abbrev so_far : IsRunBegun position company kind (run_borders assigned) step before
      so_far = good.in_hand

      -- a step that goes on: it crosses the border at the head, and passes what it may
      record GoesFurther (next : WalkStep) : Type 0 where
        track : IsTrack position next
        joined : AreJoined (left_at step) (entered_at next)
        over : crossed (next ∷ run) ≡ gone_over run
        through_no_red : IfSome (stop_of (entered_at next)) (λ stop. ¬ (is_red position stop ≡ true))
        through_no_full : IfSome (stop_of (entered_at next)) (λ stop. ¬ IsFull position stop company)
        room : AreAtMost (stops_of kind) (suc (length (visited run)))

      -- over a border
      went_over :
          (next : WalkStep) → GoesFurther next → LeadsOver (gone_over run ++ run_borders assigned) (left_at next).hex
          (left_at next).end →
          IsGoodChoice assigned run (kind ∷ later) (node_of assigned (next ∷ run) (kind ∷ later))
      went_over next on over =
          let none : stop_of (left_at next) ≡ None = stop_none (left_at next).hex (left_at next).end _ over in
          let stops : visited (next ∷ run) ≡ visited run = ap (λ (l : Option Stop). listed l ++ visited run) none in
          let gone : gone_over (next ∷ run) ≡ border_of (left_at next).hex over.side ∷ gone_over run =
          ap (λ (l : List ℕ). l ++ crossed (next ∷ run)) (over_border (left_at next).hex (left_at next).end _ over)
          ∙ ap (λ (l : List ℕ). border_of (left_at next).hex over.side ∷ l) on.over in
          let parts = among_both (border_of (left_at next).hex over.side) (gone_over run) (run_borders assigned) in
          record {
            good = record {
              legal = good.legal;
              apart = good.apart;
              taken = good.taken;
              in_hand = record {
                walk = (on.track, on.joined, so_far.walk);
                begins = so_far.begins;
                stops = subst (λ (l : List Stop). AreDistinct l) (sym stops) so_far.stops;
                once = subst (λ (l : List ℕ). AreDistinct l) (sym gone)
                    (λ here. over.free (parts.1 (inl here)), so_far.once);
                free = λ border among. elim (subst (λ (l : List ℕ). IsAmong border l) gone among) [
                  | inl is ↦ subst (λ (b : ℕ). ¬ IsAmong b (run_borders assigned)) is
                      (λ here. over.free (parts.1 (inr here)))
                  | inr earlier ↦ so_far.free border earlier
                ];
                no_red = (on.through_no_red, so_far.no_red);
                no_full = (on.through_no_full, so_far.no_full);
                room = subst (λ (l : List Stop). HasRoom kind (length l) (left_at next).end) (sym stops)
                    (room_over kind (length (visited run)) (left_at next).hex (left_at next).end _ over on.room);
              };
            };
            falls =
                subst (λ (l : List Stop). revenue_of_runs position assigned
                + (worth position l + (may_earn position reached kind l + may_all_earn position reached later))
                ≤ bound position reached (node_of assigned run (kind ∷ later))) (sym stops)
                (omega arith);
          }

      -- to a new stop
      came_to :
          (next : WalkStep) → GoesFurther next → (stop : Stop) → stop_of (left_at next) ≡ Some stop
          → IsNew reached (visited run) stop →
          IsGoodChoice assigned run (kind ∷ later) (node_of assigned (next ∷ run) (kind ∷ later))
      came_to next on stop is new =
          let stops : visited (next ∷ run) ≡ stop ∷ visited run =
          ap (λ (l : Option Stop). listed l ++ visited run) is in
          let gone : gone_over (next ∷ run) ≡ gone_over run =
          ap (λ (l : List ℕ). l ++ crossed (next ∷ run)) (no_border (left_at next).hex (left_at next).end stop is)
          ∙ on.over in
          record {
            good = record {
              legal = good.legal;
              apart = good.apart;
              taken = good.taken;
              in_hand = record {
                walk = (on.track, on.joined, so_far.walk);
                begins = so_far.begins;
                stops = subst (λ (l : List Stop). AreDistinct l) (sym stops) (
                  (fails (has_stop stop (visited run)) (has_stop_is stop (visited run))).0 new.no_other,
                  so_far.stops,
                );
                once = subst (λ (l : List ℕ). AreDistinct l) (sym gone) so_far.once;
                free = λ border among. so_far.free border (subst (λ (l : List ℕ). IsAmong border l) gone among);
                no_red = (on.through_no_red, so_far.no_red);
                no_full = (on.through_no_full, so_far.no_full);
                room = subst (λ (l : List Stop). HasRoom kind (length l) (left_at next).end) (sym stops)
                    (room_at_stop kind (suc (length (visited run))) (left_at next).hex (left_at next).end stop is
                    on.room);
              };
            };
            falls =
                subst (λ (l : List Stop). revenue_of_runs position assigned
                + (worth position l + (may_earn position reached kind l + may_all_earn position reached later))
                ≤ bound position reached (node_of assigned run (kind ∷ later))) (sym stops)
                (omega (arith, one_stop_more position stop (visited run) kind reached new.no_other new.there on.room));
          }

      -- from a border
      from_side :
          (spot : Spot) → stop_of (left_at step) ≡ None → across (left_at step) ≡ Some spot → (next : WalkStep) →
          IsWay position lawful spot.hex spot.end next → GoesFurther next
      from_side spot none is next way =
          let there : (across spot ≡ Some (left_at step)) × (stop_of spot ≡ None) =
          back position lawful (left_at step) spot is in
          let no_stop : stop_of (entered_at next) ≡ None = ap stop_of way.enters ∙ there.1 in
          record {
            track = way.track;
            joined = inr (is ∙ ap Some (sym way.enters));
            over =
                ap (λ (s : Spot). border_at s.hex s.end ++ crossed run) way.enters
                ∙ ap (λ (l : List ℕ). l ++ crossed run) (sym (border_both position lawful (left_at step).hex
                (left_at step).end spot is));
            through_no_red = subst (λ (s : Option Stop). IfSome s (λ stop. ¬ (is_red position stop ≡ true)))
                (sym no_stop) tt;
            through_no_full = subst (λ (s : Option Stop). IfSome s (λ stop. ¬ IsFull position stop company))
                (sym no_stop) tt;
            room = side_had_room kind (length (visited run)) (left_at step).hex (left_at step).end none so_far.room;
          }

      border_good :
          stop_of (left_at step) ≡ None → (found : Option Spot) → across (left_at step) ≡ found → (child : Node) →
          IsAmong child (from_border position company reached (node_of assigned run (kind ∷ later)) found) →
          IsGoodChoice assigned run (kind ∷ later) child
      border_good none None is child among = absurd among
      border_good none (Some spot) is child among =
          let node = node_of assigned run (kind ∷ later) in
          let found = with_steps_among (leads_on reached node) node (steps_at position spot.hex spot.end) child among in
          let on : GoesFurther found.0 = from_side spot none is found.0
          (step_is position lawful spot.hex spot.end found.0 found.1) in
          subst (IsGoodChoice assigned run (kind ∷ later)) found.3
          (elim (or_cases (is_new_stop reached (visited run) (stop_of (left_at found.0)))
          (goes_over (taken_borders node) found.0) found.2) [
            | inl new ↦ let stop = new_stop reached (visited run) (stop_of (left_at found.0)) new in came_to found.0
                on stop.0 stop.1 stop.2
            | inr over ↦ went_over found.0 on (leads_over (gone_over run ++ run_borders assigned) (left_at found.0).hex
                (left_at found.0).end over)
          ])

      -- from a stop
      through_stop :
          (stop : Stop) → stop_of (left_at step) ≡ Some stop → is_red position stop ≡ false
          → is_full position company stop ≡ false →
          is_used_up (stops_of kind) (length (visited run)) ≡ false → (next : WalkStep) → Leaves position lawful stop next
          → GoesFurther next
      through_stop stop is not_red not_full used next leaves =
          record {
            track = leaves.track;
            joined = inl (stop, is, leaves.from_stop);
            over =
                ap (λ (l : List ℕ). l ++ crossed run) (no_border (entered_at next).hex (entered_at next).end stop
                leaves.from_stop)
                ∙ ap (λ (l : List ℕ). l ++ crossed run) (sym (no_border (left_at step).hex (left_at step).end stop is));
            through_no_red = subst (λ (s : Option Stop). IfSome s (λ stop. ¬ (is_red position stop ≡ true)))
                (sym leaves.from_stop) (λ red. let wrong : false ≡ true = sym not_red ∙ red in absurd cc);
            through_no_full = subst (λ (s : Option Stop). IfSome s (λ stop. ¬ IsFull position stop company))
                (sym leaves.from_stop) ((fails (is_full position company stop) (is_full_is position company stop)).0
                not_full);
            room = room_left (stops_of kind) (length (visited run)) used;
          }

      stop_good :
          (stop : Stop) → stop_of (left_at step) ≡ Some stop → (last : Bool) →
          is_last_stop position company reached (node_of assigned run (kind ∷ later)) kind stop ≡ last
          → (child : Node) → IsAmong child (from_stop position company reached (node_of assigned run (kind ∷ later))
          kind stop) → IsGoodChoice assigned run (kind ∷ later) child
      stop_good stop is true last child among =
          let node = node_of assigned run (kind ∷ later) in
          let none : IsAmong child [] = subst (λ (b : Bool). IsAmong child
          (if b then [] else with_steps (goes_over (taken_borders node)) node (steps_from position stop))) last
          among in absurd none
      stop_good stop is false last child among =
          let node = node_of assigned run (kind ∷ later) in
          let some = subst (λ (b : Bool). IsAmong child (if b then [] else with_steps (goes_over (taken_borders node))
          node (steps_from position stop))) last among in
          let found = with_steps_among (goes_over (taken_borders node)) node (steps_from position stop) child some in
          let first = or_parts (is_red position stop) (is_full position company stop
          || is_used_up (stops_of kind) (length (visited run))) last in
          let second = or_parts (is_full position company stop) (is_used_up (stops_of kind) (length (visited run)))
          first.1 in
          let on : GoesFurther found.0 = through_stop stop is first.0 second.0 second.1 found.0
          (leaves_stop position lawful stop (names_itself (left_at step) stop is) found.0 found.1) in
          subst (IsGoodChoice assigned run (kind ∷ later)) found.3
          (went_over found.0 on (leads_over (gone_over run ++ run_borders assigned) (left_at found.0).hex
          (left_at found.0).end found.2))

      -- the finished run
      all_gone : (stop : Stop) → stop_of (left_at step) ≡ Some stop → gone_over run ≡ crossed run
      all_gone stop is = ap (λ (l : List ℕ). l ++ crossed run) (no_border (left_at step).hex (left_at step).end stop is)

      done :
          (stop : Stop) → stop_of (left_at step) ≡ Some stop
          → is_finished position company reached (visited run) ≡ true →
          IsGoodChoice assigned run (kind ∷ later) (node_of (record { kind = kind; steps = run } ∷ assigned) [] later)
      done stop is finished =
          let parts = and_parts (not (ltb (length (visited run)) 2)) (list_any (has_token_at_stop position company) (visited run))
          finished in
          let gone : gone_over run ≡ crossed run = all_gone stop is in
          record {
            good = record {
              legal = (
                record {
                  walk = so_far.walk;
                  begins = so_far.begins;
                  ends = (stop, is);
                  two = ltb-false (length (visited run)) 2 (not-true (ltb (length (visited run)) 2) parts.0);
                  most = stop_had_room kind (length (visited run)) (left_at step).hex (left_at step).end stop is
                      so_far.room;
                  no_stop_twice = so_far.stops;
                  own_token = has_such (λ s. HasToken position s company) (has_token_at_stop position company)
                      (has_token_is position company) (visited run) parts.1;
                  no_border_twice = subst (λ (l : List ℕ). AreDistinct l) gone so_far.once;
                  no_used_border = free_of_none (crossed run);
                  no_red_inside = so_far.no_red;
                  no_full_inside = so_far.no_full;
                },
                good.legal,
              );
              apart = (
                shares_none run assigned (λ border among. so_far.free border
                    (subst (λ (l : List ℕ). IsAmong border l) (sym gone) among)),
                good.apart,
              );
              taken = λ k. omega (arith, good.taken k);
              in_hand = none_begun position company (crossed run ++ run_borders assigned) later;
            };
            falls = omega (arith, none_in_hand position reached later);
          }

      head_good :
          (found : Option Stop) → stop_of (left_at step) ≡ found → (child : Node) →
          IsAmong child (from_head position company reached (node_of assigned run (kind ∷ later)) kind later
          (left_at step) found) →
          IsGoodChoice assigned run (kind ∷ later) child
      head_good None is child among = border_good is (across (left_at step)) refl child among
      head_good (Some stop) is child among =
          let node = node_of assigned run (kind ∷ later) in
          elim ((among_both child (finishing position company reached node kind later)
          (from_stop position company reached node kind stop)).0 among) [
            | inl finished ↦
                let found = node_if_among (is_finished position company reached (visited run))
                (node_of (record { kind = kind; steps = run } ∷ assigned) [] later) child finished in
                subst (IsGoodChoice assigned run (kind ∷ later)) found.1 (done stop is found.0)
            | inr on ↦ stop_good stop is (is_last_stop position company reached node kind stop) refl child on
          ]

  -- each choice at a good node is good
  pub choice_good :
      (assigned : List TrainRun) (begun : List WalkStep) (trains : List Kind)
      → IsGood position company all assigned begun trains → (child : Node) →
      IsAmong child (choices_at position company reached assigned begun trains)
      → IsGoodChoice assigned begun trains child
  choice_good assigned begun [] good child among = absurd among
  choice_good assigned [] (kind ∷ later) good child (inl is) =
      subst (IsGoodChoice assigned [] (kind ∷ later)) is (no_run assigned kind later good)
  choice_good assigned [] (kind ∷ later) good child (inr among) = setting_out_good assigned kind later good child among
  choice_good assigned (step ∷ before) (kind ∷ later) good child among =
      head_good assigned kind later step before good (stop_of (left_at step)) refl child among
