-- Ways on are in vain by what lies ahead: each leg to a stop in a list from which no leg leads out
-- of it, and all legs back. If all ways on are in vain, the run earns no more than has been found.
use Rattle.std.proofs.Common.{◌≡◌, ℕ, ◌+◌, ◌≤◌, Bool, true, false, inl, inr, Some, List, [], ◌∷◌, length}
use Rattle.std.proofs.Common.{get_or, replicate, slice_get, refl, sym, subst, ◌∙◌, arith}
use Rattle.std.proofs.lemmas.Option.{slice_get_within}
use Rattle.search_task.specs.declared.task.Task.{Task}
use Rattle.search_task.specs.declared.task.Leg.{Leg}
use Rattle.best_run.specs.declared.state.Assigned.{Assigned}
use Rattle.best_run.specs.declared.state.PartialRun.{PartialRun}
use Rattle.best_run.specs.declared.value_ahead.Worth.{Worth}
use Rattle.best_run.specs.declared.ways_on.WaysOn.{WaysOn}
use Rattle.best_run.specs.Ahead.{EndsAtMost, IsClosed, LiesAhead, WidensAt, leads_on}
use Rattle.best_run.specs.EndStops.{HasWorth}
use Rattle.best_run.specs.declared.memo.Found.{Found}
use Rattle.best_run.specs.Moves.{Any, IsTurn, Tries, begin, can_take, finish, go, partial, pass}
use Rattle.best_run.specs.Moves.{turn, turned_back}
use Rattle.best_run.specs.WaysOn.{AreFound, AreWaysOn, GoesInVain, IsLow, IsWayAdded, TurnsInVain}
use Rattle.search_task.specs.Fit.{IsFit}
use Rattle.search_task.specs.Legs.{AreReady, IsStop, legs_at}
use Rattle.search_task.specs.Spots.{ends_in, node_at}
use Rattle.best_run.proofs.Ahead.{along_not, closed_at}
use Rattle.best_run.proofs.Along.{ByLeg, by_leg, turn_by_legs}
use Rattle.best_run.proofs.Hopeless.{finish_low, leg_low, take_back}
use Rattle.best_run.proofs.Traced.{traced_none}
use Rattle.reach.proofs.Collected.{none_marked}
use Rattle.search_task.proofs.Booleans.{not_both}
use Rattle.search_task.proofs.Departing.{legs_of}
use Rattle.search_task.proofs.Places.{below_next, one_leg}

-- nothing is said to be in vain
pub ways_unknown : (task : Task) (assigned : Assigned) (run : PartialRun) (best : ℕ) (ways : WaysOn)
    → ways.vain ≡ replicate 744 false → ways.turns_in_vain ≡ false → AreWaysOn task assigned run best ways
ways_unknown task assigned run best ways none turns =
    record {
      go = λ passing place leg at lies taken. absurd
          (not_both (get_or (replicate 744 false) leg.segment.to false)
          (subst (λ (ms : List Bool). LiesAhead ms leg.segment.to) none lies)
          (none_marked 744 leg.segment.to));
      turn = λ vain. absurd (not_both ways.turns_in_vain vain turns);
    }

-- a run that turns back in vain need not turn back
pub turns_tried : (task : Task) → IsFit task → AreReady task → (assigned : Assigned) (run : PartialRun) (best : Found)
    → IsStop task run.home → length assigned.used ≡ 279 → run.turned ≡ false → ends_in (node_at task run.home) ≡ false
    → TurnsInVain task assigned run best.amount → Tries task (partial assigned run) (IsTurn Any) best best
turns_tried task fit ready assigned run best begins whole once passing vain =
    turn_by_legs task fit assigned whole run begins.1 (legs_at task run.home) (legs_of task ready run.home begins)
    (length (legs_at task run.home)) best best (omega arith)
    (record {
      grows = omega arith;
      traced = traced_none task (partial assigned run) best;
      known = λ known. known;
      most = λ known leg is can moves completes. vain once passing is.0.0 leg is.0.2 is.1 can moves completes;
    })

-- what lies ahead is worth as much to a run that turns back
pub worth_back : (task : Task) (assigned : Assigned) (run : PartialRun) (ahead : List Bool) (worth : Worth)
    → HasWorth task assigned run ahead worth → HasWorth task assigned (turned_back run) ahead worth
worth_back task assigned run ahead worth has =
    record {
      nodes = has.nodes;
      counts = record {
        all = has.counts.all;
        value = has.counts.value;
        ends = has.counts.ends;
        plain = has.counts.plain;
      };
      known = has.known;
    }

-- to turn back is in vain
pub turns_by : (task : Task) → IsFit task → AreReady task → (assigned : Assigned) (run : PartialRun) (best : ℕ)
    → IsStop task run.home → length assigned.used ≡ 279 → length run.visited ≡ 744 → (ahead : List Bool)
    → IsClosed task assigned run ahead → IsLow task assigned (turned_back run) ahead best
    → TurnsInVain task assigned run best
turns_by task fit ready assigned run best begins whole spots ahead closed low once passing place leg at later taken =
    leg_low task fit ready assigned (turned_back run) ahead back low.nodes low.counts begins begins whole spots
    low.level low.most best low.earns low.short passing place leg at
    (closed.home once passing place leg at later (sym (take_back task run assigned.used leg.segment) ∙ taken)) taken
  where
    back : IsClosed task assigned (turned_back run) ahead
    back =
        record {
          home = λ wrong. absurd (not_both true refl wrong);
          all = λ spot lies passes place leg at taken. closed.all spot lies passes place leg at
              (sym (take_back task run assigned.used leg.segment) ∙ taken);
        }

module _ (task : Task) (fit : IsFit task) (ready : AreReady task) (assigned : Assigned) (run : PartialRun) (best : ℕ)
    (head_is_stop : IsStop task run.head) (begins : IsStop task run.home) (whole : length assigned.used ≡ 279)
    (spots : length run.visited ≡ 744) where
  -- to go on is in vain
  pub goes_by : (ahead : List Bool) → IsClosed task assigned run ahead → IsLow task assigned run ahead best
      → GoesInVain task assigned run ahead best
  goes_by ahead closed low passing place leg at lies taken =
      leg_low task fit ready assigned run ahead closed low.nodes low.counts head_is_stop begins whole spots low.level
      low.most best low.earns low.short passing place leg at lies taken

  -- all ways on are in vain
  pub ends_vain : (vain home : List Bool) → GoesInVain task assigned run vain best → TurnsInVain task assigned run best
      → IsLow task assigned run home best
      → (ends_in (node_at task run.head) ≡ false → (place : ℕ) (leg : Leg)
      → slice_get (legs_at task run.head) place ≡ Some leg → can_take task run assigned.used leg.segment ≡ true
      → LiesAhead vain leg.segment.to) → EndsAtMost task assigned run best
  ends_vain vain home goes turns low leads [] completes = absurd completes
  ends_vain vain home goes turns low leads (pass ∷ moves) completes = absurd completes.0
  ends_vain vain home goes turns low leads (begin stop index segment ∷ moves) completes = absurd completes.0
  ends_vain vain home goes turns low leads (go index segment ∷ moves) completes =
      let may = completes.0 in
      let by : ByLeg task fit run.head head_is_stop.1 (legs_at task run.head) (legs_of task ready run.head head_is_stop)
      assigned run index segment moves =
      by_leg task fit run.head head_is_stop.1 (legs_at task run.head) (legs_of task ready run.head head_is_stop)
      assigned run whole index segment moves may.leads may.taken completes.1 in
      subst (λ (n : ℕ). n ≤ best) (sym by.total)
      (goes may.passes by.place_of by.leg by.is_leg (leads may.passes by.place_of by.leg by.is_leg by.can) by.can
      by.later by.completes)
  ends_vain vain home goes turns low leads (turn index segment ∷ moves) completes =
      let may = completes.0 in
      let by : ByLeg task fit run.home begins.1 (legs_at task run.home) (legs_of task ready run.home begins) assigned
      (turned_back run) index segment moves =
      by_leg task fit run.home begins.1 (legs_at task run.home) (legs_of task ready run.home begins) assigned
      (turned_back run) whole index segment moves may.leads may.taken completes.1 in
      subst (λ (n : ℕ). n ≤ best) (sym by.total)
      (turns may.once may.passes by.place_of by.leg by.is_leg (omega (arith, may.later, by.first)) by.can by.later
      by.completes)
  ends_vain vain home goes turns low leads (finish ∷ moves) completes =
      finish_low task assigned run low.most best whole (omega (arith, low.earns)) low.short moves completes.1

  -- the ways home are found, all of them in vain or not
  pub found_none : (home : List Bool) (ways : WaysOn) → ways.ahead ≡ home → AreWaysOn task assigned run best ways
      → (ways.all_in_vain ≡ true → (ways.vain ≡ home) × ((ways.turns_in_vain ≡ true)
      × IsLow task assigned run home best)) → AreFound task assigned run best home 0 ways
  found_none home ways same are vain =
      record {
        are = are;
        kept = λ spot lies. subst (λ (ms : List Bool). LiesAhead ms spot) (sym same) lies;
        leads = λ place leg low at taken. absurd (omega (arith, low));
        all = λ all spot lies. subst (λ (ms : List Bool). LiesAhead ms spot) (same ∙ sym (vain all).0) lies;
        turn = λ all. (vain all).1.0;
        low = λ all. (vain all).1.1;
      }

  -- one more leg leads on
  pub found_more : (home way : List Bool) (place : ℕ) (leg : Leg) (in_vain : Bool) (old new : WaysOn)
      → IsClosed task assigned run home → slice_get (legs_at task run.head) place ≡ Some leg
      → WidensAt task assigned run leg.segment.to home way
      → (in_vain ≡ true → IsLow task assigned run way best) → IsWayAdded way in_vain old new
      → AreFound task assigned run best home place old → AreFound task assigned run best home (place + 1) new
  found_more home way place leg in_vain old new closed here widens low added found =
      record {
        are = record {
          go = go_by in_vain refl;
          turn = λ turns. found.are.turn (sym added.turns ∙ turns);
        };
        kept = λ spot lies. (added.ahead.each spot).1 (inl (found.kept spot lies));
        leads = λ other one less at taken. elim (below_next other place less) [
          | inl sooner ↦
              (added.ahead.each one.segment.to).1 (inl (found.leads other one sooner at taken))
          | inr same ↦
              let is : leg ≡ one = one_leg (legs_at task run.head) place other leg one here at same in
              (added.ahead.each one.segment.to).1
              (inr (subst (λ (w : Leg). LiesAhead way w.segment.to) is widens.lies))
        ];
        all = λ all. all_by in_vain refl all;
        turn = λ all. added.turns ∙ found.turn (was_all in_vain refl all);
        low = λ all. found.low (was_all in_vain refl all);
      }
    where
      was_all : (is : Bool) → in_vain ≡ is → new.all_in_vain ≡ true → old.all_in_vain ≡ true
      was_all true is all = sym (added.vain is).1 ∙ all
      was_all false is all = absurd (not_both new.all_in_vain all (added.worth is).1)

      go_by : (is : Bool) → in_vain ≡ is → GoesInVain task assigned run new.vain best
      go_by true is passing other one at lies taken =
          elim (((added.vain is).0.each one.segment.to).0 lies) [
            | inl before ↦ found.are.go passing other one at before taken
            | inr more ↦
                goes_by way
                (closed_at task assigned run leg.segment.to home way closed widens) (low is) passing other
                one at more taken
          ]
      go_by false is passing other one at lies taken =
          found.are.go passing other one at (subst (λ (ms : List Bool). LiesAhead ms one.segment.to) (added.worth is).0
          lies) taken

      all_by : (is : Bool) → in_vain ≡ is → new.all_in_vain ≡ true → (spot : ℕ) → LiesAhead new.ahead spot
          → LiesAhead new.vain spot
      all_by false is all spot lies = absurd (not_both new.all_in_vain all (added.worth is).1)
      all_by true is all spot lies =
          ((added.vain is).0.each spot).1 (elim ((added.ahead.each spot).0 lies) [
            | inl before ↦ inl (found.all (was_all true is all) spot before)
            | inr more ↦ inr more
          ])

  -- one more leg does not
  pub found_skip : (home : List Bool) (place : ℕ) (leg : Leg) (ways : WaysOn)
      → slice_get (legs_at task run.head) place ≡ Some leg
      → leads_on task assigned run ways.ahead leg.segment ≡ false → AreFound task assigned run best home place ways
      → AreFound task assigned run best home (place + 1) ways
  found_skip home place leg ways here not_on found =
      record {
        are = found.are;
        kept = found.kept;
        leads = λ other one less at taken. elim (below_next other place less) [
          | inl sooner ↦ found.leads other one sooner at taken
          | inr same ↦
              let is : leg ≡ one = one_leg (legs_at task run.head) place other leg one here at same in
              subst (λ (w : Leg). can_take task run assigned.used w.segment ≡ true
              → LiesAhead ways.ahead w.segment.to) is
              (along_not task assigned run leg.segment ways.ahead not_on).leads taken
        ];
        all = found.all;
        turn = found.turn;
        low = found.low;
      }

  -- if all that was found is in vain, so are all ways on
  pub found_all : (home : List Bool) (ways : WaysOn) (count : ℕ)
      → (ends_in (node_at task run.head) ≡ false → length (legs_at task run.head) ≤ count)
      → AreFound task assigned run best home count ways → ways.all_in_vain ≡ true → EndsAtMost task assigned run best
  found_all home ways count over found all =
      ends_vain ways.vain home found.are.go (found.are.turn (found.turn all)) (found.low all)
      (λ passing place leg at taken. found.all all leg.segment.to (found.leads place leg
      (omega (arith, over passing, slice_get_within (legs_at task run.head) place leg at)) at taken))
