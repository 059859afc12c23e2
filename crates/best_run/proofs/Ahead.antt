-- What lies ahead of a run is found segment by segment, and what is found is all that the run may
-- reach.
use Rattle.std.proofs.Common.{◌≡◌, ℕ, ◌+◌, ◌<◌, ◌≤◌, Bool, true, false, not, ◌&&◌, ◌⊎◌, inl, inr, Some, List, length}
use Rattle.std.proofs.Common.{get_or, set, replicate, slice_get, refl, sym, ap, subst, ◌∙◌, arith, le_trans}
use Rattle.std.proofs.Common.{get_or-set_same}
use Rattle.std.proofs.lemmas.Option.{slice_get_within}
use Rattle.legal_runs.proofs.Earning.{mark_used}
use Rattle.reach.proofs.Collected.{none_marked}
use Rattle.reach.proofs.Marking.{set_cases, set_keeps}
use Rattle.search_task.specs.declared.task.Segment.{Segment}
use Rattle.search_task.specs.declared.task.Task.{Task}
use Rattle.search_task.specs.declared.task.Leg.{Leg}
use Rattle.best_run.specs.declared.state.Assigned.{Assigned}
use Rattle.best_run.specs.declared.state.PartialRun.{PartialRun}
use Rattle.best_run.specs.Ahead.{IsClosed, IsGoneOver, LiesAhead, Widens, WidensBack, WidensBackBelow, WidensBelow}
use Rattle.best_run.specs.Ahead.{WidensBy, WidensFrom, WidensAt, leads_on}
use Rattle.best_run.specs.Moves.{can_take}
use Rattle.search_task.specs.Spots.{ends_in, node_at}
use Rattle.search_task.specs.Legs.{legs_at}
use Rattle.search_task.proofs.Places.{below_next, one_leg}
use Rattle.search_task.proofs.Booleans.{not_both}

module _ (task : Task) (assigned : Assigned) (run : PartialRun) where
  widens_none : (ahead : List Bool) → Widens task assigned run ahead ahead
  widens_none ahead = record { kept = λ spot lies. lies; over = λ spot lies. inl lies; fewer = omega arith }

  -- what is gone over stays so where more lies ahead
  over_more : (old new : List Bool) → ((spot : ℕ) → LiesAhead old spot → LiesAhead new spot) → (spot : ℕ)
      → IsGoneOver task assigned run old spot → IsGoneOver task assigned run new spot
  over_more old new kept spot over passes place leg at taken = kept leg.segment.to (over passes place leg at taken)

  widens_both : (old middle new : List Bool) → Widens task assigned run old middle → Widens task assigned run middle new
      → Widens task assigned run old new
  widens_both old middle new first second =
      record {
        kept = λ spot lies. second.kept spot (first.kept spot lies);
        over = λ spot lies. elim (second.over spot lies) [
          | inl before ↦ elim (first.over spot before) [
            | inl old_one ↦ inl old_one
            | inr over ↦ inr
                (over_more middle new second.kept spot over)
          ]
          | inr over ↦ inr over
        ];
        fewer = le_trans second.fewer first.fewer;
      }

  -- no segment is gone over, one more is, and all are
  pub below_none : (spot : ℕ) (ahead : List Bool) → WidensBelow task assigned run spot 0 ahead ahead
  below_none spot ahead = record { widens = widens_none ahead; leads = λ place leg low at taken. absurd (omega arith) }

  pub below_more : (spot place : ℕ) (leg : Leg) (old middle new : List Bool)
      → slice_get (legs_at task spot) place ≡ Some leg → WidensBelow task assigned run spot place old middle
      → WidensBy task assigned run leg.segment middle new → WidensBelow task assigned run spot (place + 1) old new
  below_more spot place leg old middle new here before by =
      record {
        widens = widens_both old middle new before.widens by.widens;
        leads = λ other found low at taken. elim (below_next other place low) [
          | inl less ↦ by.widens.kept found.segment.to (before.leads other found less at taken)
          | inr same ↦
              let is : leg ≡ found = one_leg (legs_at task spot) place other leg found here at same in
              subst (λ (w : Leg). can_take task run assigned.used w.segment ≡ true → LiesAhead new w.segment.to) is
              by.leads taken
        ];
      }

  pub from_all : (spot : ℕ) (legs : List Leg) (place : ℕ) (old new : List Bool) → legs_at task spot ≡ legs
      → length legs ≤ place → WidensBelow task assigned run spot place old new → WidensFrom task assigned run spot old
      new
  from_all spot legs place old new there all below =
      record {
        widens = below.widens;
        here = λ passes other leg at taken.
            let low : other < length legs = slice_get_within legs other leg
            (ap (λ ws. slice_get ws other) (sym there) ∙ at) in
            below.leads other leg (omega (arith, low, all)) at taken;
      }

  -- the same for the stop where the run began
  pub back_none : (ahead : List Bool) → WidensBackBelow task assigned run 0 ahead ahead
  back_none ahead = record { widens = widens_none ahead; leads = λ place leg low at later taken. absurd (omega arith) }

  pub back_more : (place : ℕ) (leg : Leg) (old middle new : List Bool)
      → slice_get (legs_at task run.home) place ≡ Some leg → WidensBackBelow task assigned run place old middle
      → WidensBy task assigned run leg.segment middle new → WidensBackBelow task assigned run (place + 1) old new
  back_more place leg old middle new here before by =
      record {
        widens = widens_both old middle new before.widens by.widens;
        leads = λ other found low at later taken. elim (below_next other place low) [
          | inl less ↦ by.widens.kept found.segment.to (before.leads other found less at later taken)
          | inr same ↦
              let is : leg ≡ found = one_leg (legs_at task run.home) place other leg found here at same in
              subst (λ (w : Leg). can_take task run assigned.used w.segment ≡ true → LiesAhead new w.segment.to) is
              by.leads taken
        ];
      }

  pub back_skip : (place : ℕ) (leg : Leg) (old new : List Bool) → slice_get (legs_at task run.home) place ≡ Some leg
      → (run.first ≤ leg.first → ⊥) → WidensBackBelow task assigned run place old new
      → WidensBackBelow task assigned run (place + 1) old new
  back_skip place leg old new here sooner before =
      record {
        widens = before.widens;
        leads = λ other found low at later taken. elim (below_next other place low) [
          | inl less ↦ before.leads other found less at later taken
          | inr same ↦
              let is : leg ≡ found = one_leg (legs_at task run.home) place other leg found here at same in
              absurd (sooner (subst (λ (w : Leg). run.first ≤ w.first) (sym is) later))
        ];
      }

  pub back_all : (legs : List Leg) (place : ℕ) (old new : List Bool) → legs_at task run.home ≡ legs
      → length legs ≤ place → WidensBackBelow task assigned run place old new → WidensBack task assigned run old new
  back_all legs place old new there all below =
      record {
        widens = below.widens;
        here = λ passes other leg at later taken.
            let low : other < length legs = slice_get_within legs other leg
            (ap (λ ws. slice_get ws other) (sym there) ∙ at) in
            below.leads other leg (omega (arith, low, all)) at later taken;
      }

  pub back_end : (ahead : List Bool) → ends_in (node_at task run.home) ≡ true → WidensBack task assigned run ahead ahead
  back_end ahead ends =
      record {
        widens = widens_none ahead;
        here = λ passes place leg at later taken. absurd
            (not_both (ends_in (node_at task run.home)) ends passes);
      }

  -- no run passes a spot
  pub from_end : (spot : ℕ) (ahead : List Bool) → ends_in (node_at task spot) ≡ true
      → WidensFrom task assigned run spot ahead ahead
  from_end spot ahead ends =
      record {
        widens = widens_none ahead;
        here = λ passes place leg at taken. absurd
            (not_both (ends_in (node_at task spot)) ends passes);
      }

  -- a segment leads to what lies ahead, or may not be taken
  along_known : (segment : Segment) (ahead : List Bool) → LiesAhead ahead segment.to
      → WidensBy task assigned run segment ahead ahead
  along_known segment ahead lies = record { widens = widens_none ahead; leads = λ taken. lies }

  along_none : (segment : Segment) (ahead : List Bool) → can_take task run assigned.used segment ≡ false
      → WidensBy task assigned run segment ahead ahead
  along_none segment ahead none =
      record {
        widens = widens_none ahead;
        leads = λ taken. absurd
            (not_both (can_take task run assigned.used segment) taken none);
      }

  -- a stop that lies ahead is gone over
  pub at_from : (spot : ℕ) (old new : List Bool) → get_or old spot false ≡ false → spot < length old
      → WidensFrom task assigned run spot (set old spot true) new → WidensAt task assigned run spot old new
  at_from there old new free low from =
      record {
        widens = record {
          kept = λ spot lies. from.widens.kept spot (set_keeps old there spot low lies);
          over = λ spot lies. elim (from.widens.over spot lies) [
            | inl marked ↦ elim (set_cases old there spot marked) [
              | inl same ↦ inr (subst (λ (s : ℕ). IsGoneOver task assigned run new s) same from.here)
              | inr before ↦ inl before
            ]
            | inr over ↦ inr over
          ];
          fewer = omega (arith, from.widens.fewer, mark_used old there low free);
        };
        lies = from.widens.kept there (get_or-set_same old there true false low);
      }

  pub along_at : (segment : Segment) (old new : List Bool) → WidensAt task assigned run segment.to old new
      → WidensBy task assigned run segment old new
  along_at segment old new past = record { widens = past.widens; leads = λ taken. past.lies }

  -- a segment does not lead on
  pub along_not : (segment : Segment) (ahead : List Bool) → leads_on task assigned run ahead segment ≡ false
      → WidensBy task assigned run segment ahead ahead
  along_not segment ahead is = by_mark (get_or ahead segment.to false) refl is
    where
      by_mark : (lies : Bool) → get_or ahead segment.to false ≡ lies
          → (not lies && can_take task run assigned.used segment) ≡ false → WidensBy task assigned run segment ahead
          ahead
      by_mark true there none = along_known segment ahead there
      by_mark false there none = along_none segment ahead none

  -- where nothing lay ahead, all has been gone over
  all_over : (ahead : List Bool) → ((spot : ℕ) → LiesAhead ahead spot
      → LiesAhead (replicate 744 false) spot ⊎ IsGoneOver task assigned run ahead spot) → (spot : ℕ)
      → LiesAhead ahead spot → IsGoneOver task assigned run ahead spot
  all_over ahead over spot lies =
      elim (over spot lies) [
        | inl none ↦ absurd (not_both (get_or (replicate 744 false) spot false) none (none_marked 744 spot))
        | inr over ↦ over
      ]

  -- nothing lies ahead of a run that has turned back
  pub closed_none : run.turned ≡ true → IsClosed task assigned run (replicate 744 false)
  closed_none turned =
      record {
        home = λ not_turned. absurd (not_both run.turned turned not_turned);
        all = λ spot none. absurd
            (not_both (get_or (replicate 744 false) spot false) none (none_marked 744 spot));
      }

  -- otherwise what lies ahead once it turns back
  pub closed_back : (ahead : List Bool) → WidensBack task assigned run (replicate 744 false) ahead
      → IsClosed task assigned run ahead
  closed_back ahead back = record { home = λ not_turned. back.here; all = all_over ahead back.widens.over }

  -- and what lies ahead of one more stop
  pub closed_at : (spot : ℕ) (old new : List Bool) → IsClosed task assigned run old
      → WidensAt task assigned run spot old new → IsClosed task assigned run new
  closed_at there old new closed at =
      record {
        home = λ not_turned passes place leg is_leg later taken. at.widens.kept leg.segment.to
            (closed.home not_turned passes place leg is_leg later taken);
        all = λ spot lies. elim (at.widens.over spot lies) [
          | inl before ↦ over_more old new at.widens.kept spot (closed.all spot before)
          | inr over ↦ over
        ];
      }

-- a segment that leads on reaches a stop that does not lie ahead
pub leads_free : (lies takes : Bool) → (not lies && takes) ≡ true → lies ≡ false
leads_free true takes is = absurd (not_both false is refl)
leads_free false takes is = refl
