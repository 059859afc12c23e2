-- A state that is covered by one that has been explored earns no more than the best found; a state
-- that has been explored may be kept.
use Rattle.std.proofs.Common.{◌≡◌, ℕ, Bool, zero, suc, ◌-◌, ◌<◌, ◌≤◌, ◌⊎◌, inl, inr, Option, None, Some, Ok, List, []}
use Rattle.std.proofs.Common.{◌∷◌, ◌++◌, length, set, slice_get, refl, sym, ap, subst, ◌∙◌, arith}
use Rattle.std.specs.declared.alloc.AllocError.{AllocError}
use Rattle.best_run.specs.declared.memo.Found.{Found}
use Rattle.best_run.specs.declared.search_state.SearchState.{SearchState}
use Rattle.best_run.specs.declared.state.Assigned.{Assigned}
use Rattle.best_run.specs.declared.state.PartialRun.{PartialRun}
use Rattle.search_task.specs.declared.task.Task.{Task}
use Rattle.best_run.specs.declared.move_path.MovePath.{MovePath}
use Rattle.search_task.specs.Fit.{IsFit}
use Rattle.best_run.specs.Memo.{Dominates, DominatesAny, DominatesRun, DominatesStage, IsDominated, IsHeld, IsKept}
use Rattle.best_run.specs.Memo.{IsNothing, found_or, unless_refused}
use Rattle.best_run.specs.Moves.{AreInMemo, Completes, Explores, LeadsToAtMost, State, between, partial, state_at}
use Rattle.best_run.specs.Moves.{state_by, total_after}
use Rattle.best_run.specs.MovePath.{marks_in}
use Rattle.best_run.proofs.Eased.{Eased, ease, freer_length}
use Rattle.best_run.proofs.Freed.{Freed, Frees, HasLeft, free, freed}
use Rattle.search_task.proofs.Chained.{set_at}
use Rattle.best_run.proofs.Traced.{traced_both, traced_none}
use Rattle.legal_runs.proofs.Earning.{few_unused}

-- what is covered earns no more
low_between : (task : Task) (entry assigned : Assigned) (most : ℕ) → Dominates entry assigned
    → LeadsToAtMost task (between entry) most → LeadsToAtMost task (between assigned) most
low_between task entry assigned most dominates low moves completes =
    let easy : Eased task entry.kind entry.cap (between assigned) moves entry.total entry.used =
    ease task moves entry.kind entry.cap (between assigned) entry.total entry.used
    (inr (sym dominates.kind, dominates.cap)) dominates.used completes in
    let At : ℕ → Assigned = λ next. record entry { next = next } in
    let Ends : ℕ → Type 0 = λ next. Completes task (between (At next)) moves
    → total_after task (between (At next)) moves ≤ most in
    let here : Ends entry.next = low moves in
    let there : Ends assigned.next = subst Ends dominates.next here in
    omega (arith, easy.earns, there easy.completes, dominates.total)

-- a run that is covered earns no more
low_partial : (task : Task) → IsFit task → (entry assigned : Assigned) (first second : PartialRun) (most : ℕ)
    → length entry.used ≡ 279 → Dominates entry assigned → entry.kind ≡ 0 → DominatesRun first second
    → LeadsToAtMost task (partial entry first) most → LeadsToAtMost task (partial assigned second) most
low_partial task fit entry assigned first second most whole dominates none run low moves completes =
    let more = first.value - second.value in
    let frees : Frees assigned second first.home first.first first.left first.value first.visited entry.used entry.kind
    entry.cap more = record {
      back = run.back;
      left_is = has_left run.left;
      value_is = omega (arith, run.value);
      freer = run.visited;
      borders = dominates.used;
      looser = inl none;
      whole = whole;
    } in
    let other = freed second first.home first.first first.left first.value first.visited in
    let easy : Freed task assigned second other entry.used entry.kind entry.cap more entry.total moves =
    free task fit moves assigned second first.home first.first first.left first.value first.visited entry.used
    entry.kind entry.cap more entry.total frees completes in
    let same : first ≡ other = same_run first second.turned second.head second.most run.turned run.head run.most in
    let At : ℕ → Assigned = λ next. record entry { next = next } in
    let Ends : ℕ → Type 0 = λ next. Completes task (partial (At next) other) moves
    → total_after task (partial (At next) other) moves ≤ most in
    let here : Ends entry.next = subst (λ (r : PartialRun). LeadsToAtMost task (partial entry r) most) same low moves in
    let there : Ends assigned.next = subst Ends dominates.next here in
    omega (arith, easy.earns, there easy.completes, dominates.total)
  where
    has_left : (second.left ≤ first.left) ⊎ (279 ≤ first.left) → HasLeft entry.used second.left first.left
    has_left (inl most) = inl most
    has_left (inr most) = inr (omega (arith, most, few_unused entry.used, whole))

    same_run : (r : PartialRun) (turned : Bool) (head many : ℕ) → r.turned ≡ turned → r.head ≡ head → r.most ≡ many
        → r ≡ record {
          home = r.home;
          first = r.first;
          turned = turned;
          head = head;
          most = many;
          left =
              r.left;
          value = r.value;
          visited = r.visited;
        }
    same_run r turned head many is_turned is_head is_most = rw (← is_turned, ← is_head, ← is_most) refl

low_covered : (task : Task) → IsFit task → (entry search_state : SearchState) (most : ℕ)
    → length search_state.assigned.used ≡ 279 → DominatesStage entry search_state
    → LeadsToAtMost task (state_at entry) most → LeadsToAtMost task (state_at search_state) most
low_covered task fit entry search_state most whole dominates low = by_runs entry.run search_state.run dominates.run low
  where
    by_runs : (first second : Option PartialRun) → DominatesAny entry.assigned.kind first second
        → LeadsToAtMost task (state_by entry.assigned first) most
        → LeadsToAtMost task (state_by search_state.assigned second) most
    by_runs None None run low = low_between task entry.assigned search_state.assigned most dominates.assigned low
    by_runs None (Some second) run low = absurd run
    by_runs (Some first) None run low = absurd run
    by_runs (Some first) (Some second) run low = low_partial task fit entry.assigned search_state.assigned first second
        most (sym (freer_length search_state.assigned.used entry.assigned.used dominates.assigned.used) ∙ whole)
        dominates.assigned run.0 run.1 low

pub explores_dominated : (task : Task) → IsFit task → (state : State) (like : SearchState) (best : Found)
    → length like.assigned.used ≡ 279 → ((most : ℕ) → LeadsToAtMost task (state_at like) most
    → LeadsToAtMost task state most) → IsDominated best like → Explores task state best best
explores_dominated task fit state like best whole canonical is =
    record {
      grows = omega arith;
      traced = traced_none task state best;
      known = λ known. known;
      most = λ known. canonical best.amount (low_covered task fit is.entry like best.amount whole is.dominates
          (known is.place is.entry is.there));
    }

-- a state is kept once it has been explored
pub explores_kept : (task : Task) (state : State) (like : SearchState) (old new kept : Found)
    → ((most : ℕ) → LeadsToAtMost task state most → LeadsToAtMost task (state_at like) most)
    → Explores task state old new → IsKept like new kept → Explores task state old kept
explores_kept task state like old new kept canonical explores is =
    record {
      grows = omega (arith, explores.grows, is.amount);
      traced = traced_both task state old new kept explores.grows (omega (arith, is.amount)) explores.traced (record {
        refused = is.refused;
        recorded = λ none. inl (record { amount = is.amount; marks = is.marks });
      });
      known = λ known place entry there. subst (λ (n : ℕ). LeadsToAtMost task (state_at entry) n) (sym is.amount)
          (elim (is.only place entry there) [
            | inl held ↦ explores.known known held.0 entry held.1
            | inr same ↦ subst (λ (s : SearchState). LeadsToAtMost task (state_at s) new.amount) same
                (canonical new.amount (explores.most known))
          ]);
      most = λ known. subst (λ (n : ℕ). LeadsToAtMost task state n) (sym is.amount) (explores.most known);
    }

-- no allocation has failed if what is found is returned
pub granted : (best found : Found) → unless_refused best ≡ Ok found → (found ≡ best) × (best.move_path.refused ≡ None)
granted best found is = by_error best.move_path.refused is
  where
    by_error : (refused : Option AllocError) → found_or best refused ≡ Ok found → (found ≡ best) × (refused ≡ None)
    by_error None holds = (let same : best ≡ found = cc in sym same, refl)
    by_error (Some error) holds = absurd cc

-- no state is kept at first
pub empty_memo : (task : Task) (found : Found) → IsNothing found → AreInMemo task found
empty_memo task found is place entry there =
    never place (subst (λ (entries : List SearchState). slice_get entries place ≡ Some entry) is.none there)
  where
    never : (at : ℕ) → slice_get [] at ≡ Some entry → LeadsToAtMost task (state_at entry) found.amount
    never zero none = absurd cc
    never (suc at) none = absurd cc

-- one more is pushed
pub push_only : (one : SearchState) (entries : List SearchState) (place : ℕ) (entry : SearchState)
    → slice_get (entries ++ one ∷ []) place ≡ Some entry → (slice_get entries place ≡ Some entry) ⊎ (one ≡ entry)
push_only one [] zero entry is = inr (let e : Some one ≡ Some entry = is in cc)
push_only one [] (suc place) entry is = inl is
push_only one (other ∷ entries) zero entry is = inl is
push_only one (other ∷ entries) (suc place) entry is = push_only one entries place entry is

-- and the state that is put there is there
pub set_held : (entries : List SearchState) (n : ℕ) (search_state : SearchState) → n < length entries
    → slice_get (set entries n search_state) n ≡ Some search_state
set_held [] n search_state low = absurd (omega (arith, low))
set_held (one ∷ entries) zero search_state low = refl
set_held (one ∷ entries) (suc n) search_state low = set_held entries n search_state (omega (arith, low))

-- once a state is put at a place, each place has what it had, or that state
pub put_only : (search_state put : SearchState) (old : Found) (at place : ℕ) (entry : SearchState)
    → put ≡ search_state → slice_get (set old.memo.items at put) place ≡ Some entry
    → IsHeld old entry ⊎ (search_state ≡ entry)
put_only search_state put old at place entry is there =
    elim (set_at old.memo.items at place put entry there) [
      | inl new ↦ inr (sym is ∙ new.1)
      | inr before ↦ inl (place, before.1)
    ]

-- one that is held is held once more
pub kept_twin : (search_state twin : SearchState) (old now new : Found) (place : ℕ) → IsKept search_state old now
    → slice_get now.memo.items place ≡ Some twin → new.amount ≡ now.amount → new.move_path ≡ now.move_path
    → new.memo.items ≡ now.memo.items ++ twin ∷ [] → IsKept search_state old new
kept_twin search_state twin old now new place is at amount move_path items =
    record {
      amount = amount ∙ is.amount;
      marks = ap marks_in move_path ∙ is.marks;
      refused = λ none. is.refused (ap (λ (t : MovePath). t.refused) (sym move_path) ∙ none);
      only = λ other entry there. elim (push_only twin now.memo.items other entry
          (subst (λ (entries : List SearchState). slice_get entries other ≡ Some entry) items there)) [
            | inl before ↦ is.only other entry before
            | inr same ↦ subst (λ (s : SearchState). IsHeld old s ⊎ (search_state ≡ s)) same (is.only place twin at)
          ];
    }
