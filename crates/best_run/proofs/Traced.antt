-- How the best found is earned. While nothing more is found the path stays. What is found from a
-- state on is found from one before it, by the marks of the moves between them.
use Rattle.std.proofs.Common.{◌≡◌, ℕ, ◌<◌, ◌≤◌, true, ◌⊎◌, inl, inr, None, List, ◌++◌, slice_get, refl, sym, ap, subst}
use Rattle.std.proofs.Common.{◌∙◌, arith}
use Rattle.std.proofs.lemmas.List.{append_assoc}
use Rattle.best_run.specs.declared.memo.Found.{Found}
use Rattle.best_run.specs.declared.search_state.SearchState.{SearchState}
use Rattle.best_run.specs.declared.state.Assigned.{Assigned}
use Rattle.best_run.specs.declared.state.PartialRun.{PartialRun}
use Rattle.search_task.specs.declared.task.Task.{Task}
use Rattle.search_task.specs.declared.task.Leg.{Leg}
use Rattle.best_run.specs.declared.move_path.Mark.{Mark}
use Rattle.best_run.specs.declared.move_path.MovePath.{MovePath}
use Rattle.best_run.specs.Moves.{AreInMemo, Completes, Earns, Explores, IsAsBefore, IsBetter, IsTraced, LeadsToAtMost}
use Rattle.best_run.specs.Moves.{Move, State, Takes, Traces, along, can_take, marks_of, partial, state_at, total_after}
use Rattle.best_run.specs.Moves.{using}
use Rattle.best_run.specs.MovePath.{IsWritten, marks_in}

-- nothing has been found
pub traced_none : (task : Task) (state : State) (best : Found) → IsTraced task state best best
traced_none task state best =
    record { refused = λ none. none; recorded = λ none. inl (record { amount = refl; marks = refl }) }

-- where no way on earns more than what has been found, none need be tried
pub explores_bounded : (task : Task) (state : State) (best : Found) → LeadsToAtMost task state best.amount
    → Explores task state best best
explores_bounded task state best most =
    record { grows = omega arith; traced = traced_none task state best; known = λ known. known; most = λ known. most }

-- something has been found, and then something more
pub traced_both :
    (task : Task) (state : State) (old middle new : Found) → old.amount ≤ middle.amount → middle.amount ≤ new.amount →
    IsTraced task state old middle → IsTraced task state middle new → IsTraced task state old new
traced_both task state old middle new grows more first second =
    record {
      refused = λ none. first.refused (second.refused none);
      recorded =
          λ none. by_second (second.refused none) (second.recorded none);
    }
  where
    by_first : IsAsBefore middle new → IsAsBefore old middle ⊎ IsBetter task state old middle
        → IsAsBefore old new ⊎ IsBetter task state old new
    by_first same (inl before) = inl (record {
      amount = same.amount ∙ before.amount;
      marks =
          same.marks ∙ before.marks;
    })
    by_first same (inr better) =
        inr (record {
          more = omega (arith, better.more, same.amount);
          earns = subst (λ (marks : List Mark). Earns task state marks new.amount) (sym same.marks)
              (subst (λ (n : ℕ). Earns task state (marks_in middle.move_path) n) (sym same.amount) better.earns);
        })

    by_second :
        middle.move_path.refused ≡ None → IsAsBefore middle new ⊎ IsBetter task state middle new
        → IsAsBefore old new ⊎ IsBetter task state old new
    by_second none (inl same) = by_first same (first.recorded none)
    by_second none (inr better) = inr (record { more = omega (arith, grows, better.more); earns = better.earns })

-- whatever comes after a state comes after one before it, with some marks before
pub record ComesBy (task : Task) (from to : State) (prefix : List Mark) (later : List Move) : Type 0 where
  pub moves : List Move
  pub completes : Completes task from moves
  pub total : total_after task from moves ≡ total_after task to later
  pub marks_are : marks_of moves ≡ prefix ++ marks_of later

abbrev pub Leads : Task → State → State → List Mark → Type 0
Leads task from to prefix = (later : List Move) → Completes task to later → ComesBy task from to prefix later

-- what is earned from a state on is earned from one before it
pub earns_by :
    (task : Task) (from to : State) (prefix marks : List Mark) (amount : ℕ) → Leads task from to prefix
    → Earns task to marks amount →
    Earns task from (prefix ++ marks) amount
earns_by task from to prefix marks amount leads earns =
    let by : ComesBy task from to prefix earns.moves = leads earns.moves earns.completes in
    record {
      moves = by.moves;
      completes = by.completes;
      total = by.total ∙ earns.total;
      marks_are = ap (λ (later : List Mark). prefix ++ later) earns.marks_are ∙ sym by.marks_are;
    }

-- what is found from a state on, once the moves that led there are recorded
found_before :
    (task : Task) (from to : State) (prefix : List Mark) (old middle new : Found) → old.amount ≤ middle.amount →
    (middle.move_path.refused ≡ None → old.move_path.refused ≡ None) → Traces old.amount prefix middle new →
    (middle.move_path.refused ≡ None → IsAsBefore old middle
    ⊎ (Leads task from to prefix × IsBetter task to old middle)) → IsTraced task from old new
found_before task from to prefix old middle new grows refused traces unless_refused =
    elim (same_or_more grows) [
      | inl same ↦
          let as_before : new.move_path ≡ middle.move_path = traces.as_before (omega arith) in
          record {
            refused = λ none. refused (subst (λ (t : MovePath). t.refused ≡ None) as_before none);
            recorded = λ none. elim (unless_refused (subst (λ (t : MovePath). t.refused ≡ None) as_before none)) [
              | inl before ↦ inl (record {
                amount = traces.amount ∙ before.amount;
                marks =
                    ap marks_in as_before ∙ before.marks;
              })
              | inr better ↦ absurd (omega (arith, same, better.1.more))
            ];
          }
      | inr more ↦
          let written : IsWritten prefix middle.move_path new.move_path = traces.written more in
          record {
            refused = λ none. refused (written.refused none);
            recorded = λ none. elim (unless_refused (written.refused none)) [
              | inl before ↦ absurd (omega (arith, more, before.amount))
              | inr better ↦ inr (record {
                more = omega (arith, better.1.more, traces.amount);
                earns = subst (λ (marks : List Mark). Earns task from marks new.amount) (sym (written.marks_are none))
                    (subst (λ (n : ℕ). Earns task from (prefix ++ marks_in middle.move_path) n) (sym traces.amount)
                    (earns_by task from to prefix (marks_in middle.move_path) middle.amount better.0 better.1.earns));
              })
            ];
          }
    ]
  where
    same_or_more : old.amount ≤ middle.amount → (middle.amount ≡ old.amount) ⊎ (old.amount < middle.amount)
    same_or_more low = grind arith

-- what is kept as explored stays so where the path alone grows
known_traced :
    (task : Task) (least : ℕ) (prefix : List Mark) (middle new : Found) → Traces least prefix middle new
    → AreInMemo task middle →
    AreInMemo task new
known_traced task least prefix middle new traces known place entry there =
    subst (λ (n : ℕ). LeadsToAtMost task (state_at entry) n) (sym traces.amount)
    (known place entry (ap (λ (entries : List SearchState). slice_get entries place) (sym traces.memo) ∙ there))

-- all ways from a state on have been tried, and the path gives them from one before it
pub record ExploresFrom (task : Task) (from to : State) (old new : Found) : Type 0 where
  pub grows : old.amount ≤ new.amount
  pub traced : IsTraced task from old new
  pub known : AreInMemo task old → AreInMemo task new
  pub most : AreInMemo task old → (moves : List Move) → Completes task to moves → total_after task to moves ≤ new.amount

pub explores_from :
    (task : Task) (from to : State) (prefix : List Mark) (old middle new : Found) → Leads task from to prefix
    → Explores task to old middle →
    Traces old.amount prefix middle new → ExploresFrom task from to old new
explores_from task from to prefix old middle new leads explores traces =
    record {
      grows = omega (arith, explores.grows, traces.amount);
      traced = found_before task from to prefix old middle new explores.grows explores.traced.refused traces
          (λ none. elim (explores.traced.recorded none) [ inl before ↦ inl before | inr better ↦ inr (leads, better) ]);
      known = λ known. known_traced task old.amount prefix middle new traces (explores.known known);
      most = λ known moves completes. omega (arith, explores.most known moves completes, traces.amount);
    }

-- a leg has been tried with a run, and the path gives it from where it is tried
pub record TakesFrom (task : Task) (from : State) (assigned : Assigned) (run : PartialRun) (leg : Leg)
    (old new : Found) : Type 0 where
  pub grows : old.amount ≤ new.amount
  pub traced : IsTraced task from old new
  pub known : AreInMemo task old → AreInMemo task new
  pub most :
      AreInMemo task old → can_take task run assigned.used leg.segment ≡ true → (moves : List Move) →
      Completes task (partial (using assigned leg.segment) (along task run leg.segment)) moves →
      total_after task (partial (using assigned leg.segment) (along task run leg.segment)) moves ≤ new.amount

pub takes_from :
    (task : Task) (from : State) (assigned : Assigned) (run : PartialRun) (leg : Leg) (prefix : List Mark)
    (old middle new : Found) →
    (can_take task run assigned.used leg.segment ≡ true
    → Leads task from (partial (using assigned leg.segment) (along task run leg.segment)) prefix) →
    Takes task assigned run leg.segment old middle → Traces old.amount prefix middle new
    → TakesFrom task from assigned run leg old new
takes_from task from assigned run leg prefix old middle new leads takes traces =
    let there = partial (using assigned leg.segment) (along task run leg.segment) in
    record {
      grows = omega (arith, takes.grows, traces.amount);
      traced = found_before task from there prefix old middle new takes.grows takes.refused traces
          (λ none. elim (takes.recorded none) [
            | inl before ↦ inl before
            | inr better ↦ inr (leads better.0, better.1)
          ]);
      known = λ known. known_traced task old.amount prefix middle new traces (takes.known known);
      most = λ known can moves completes. omega (arith, takes.most known can moves completes, traces.amount);
    }

-- marks are written before others, and then more before these
pub traces_both :
    (least : ℕ) (first second : List Mark) (old middle new : Found) → Traces least first old middle
    → Traces least second middle new →
    Traces least (second ++ first) old new
traces_both least first second old middle new before after =
    record {
      amount = after.amount ∙ before.amount;
      memo = after.memo ∙ before.memo;
      as_before = λ low. after.as_before (omega (arith, low, before.amount)) ∙ before.as_before low;
      written = λ more.
          let one : IsWritten first old.move_path middle.move_path = before.written more in
          let two : IsWritten second middle.move_path new.move_path =
          after.written (omega (arith, more, before.amount)) in
          record {
            refused = λ none. one.refused (two.refused none);
            marks_are = λ none. two.marks_are none
                ∙ ap (λ (marks : List Mark). second ++ marks) (one.marks_are (two.refused none))
                ∙ sym (append_assoc second first (marks_in old.move_path));
          };
    }
