-- Ways to the end stay open where fewer borders are used, and earn as much more: so the trains that
-- are left never earn more than they do by themselves.
use Rattle.std.proofs.Common.{◌≡◌, ℕ, zero, suc, ◌+◌, ◌-◌, ◌<◌, ◌≤◌, Bool, true, false, not, ◌&&◌, ◌||◌, nat_le, ◌==◌}
use Rattle.std.proofs.Common.{◌⊎◌, inl, inr, Some, None, List, [], ◌∷◌, ◌++◌, length, set, replicate, slice_get, refl}
use Rattle.std.proofs.Common.{sym, ap, subst, ◌∙◌, arith, add-one, le_trans}
use Rattle.std.proofs.lemmas.Bool.{le-leb, leb-true}
use Rattle.search_task.specs.declared.task.Segment.{Segment}
use Rattle.search_task.specs.declared.task.Task.{Task}
use Rattle.best_run.specs.declared.memo.Found.{Found}
use Rattle.best_run.specs.declared.state.Assigned.{Assigned}
use Rattle.best_run.specs.declared.state.PartialRun.{PartialRun}
use Rattle.best_run.specs.Moves.{AreInMemo, Completes, Earns, Explores, IsTraced, Move, State, along, begin, begun}
use Rattle.best_run.specs.Moves.{between, can_take, go, may_come, may_earn, partial, pass, passed, finish, start}
use Rattle.best_run.specs.Moves.{total_after, total_of, turn, turned_back, using, with_run_finished}
use Rattle.search_task.specs.Crossed.{marked_all, misses}
use Rattle.search_task.specs.Spots.{node_at, stop_in}
use Rattle.search_task.specs.Marks.{Freer}
use Rattle.best_run.specs.Suffix.{AreBounds, EarnAtMost, ArePrunedBySuffix, IsSolved, IsTop, nothing_before}
use Rattle.search_task.proofs.Marked.{free_misses, freer_marked, misses_free}
use Rattle.best_run.specs.MovePath.{IsWritten, marks_in}
use Rattle.best_run.specs.declared.move_path.Mark.{Mark}
use Rattle.best_run.specs.declared.move_path.Mark.TheVariants.{Pass}
use Rattle.best_run.specs.declared.move_path.MovePath.{MovePath}
use Rattle.best_run.proofs.Traced.{earns_by, explores_bounded}
use Rattle.best_run.proofs.Tried.{leads_pass}

pub freer_none : (used : List Bool) → Freer used (replicate (length used) false)
freer_none [] = tt
freer_none (mark ∷ used) = ((λ wrong. absurd (let w : false ≡ true = wrong in cc)), freer_none used)

pub freer_length : (marks used : List Bool) → Freer marks used → length marks ≡ length used
freer_length [] [] freer = refl
freer_length [] (other ∷ used) freer = absurd freer
freer_length (mark ∷ marks) [] freer = absurd freer
freer_length (mark ∷ marks) (other ∷ used) freer = ap suc (freer_length marks used freer.1)

pub freer_set : (used others : List Bool) (n : ℕ) → Freer used others → Freer (set used n true) (set others n true)
freer_set [] [] n freer = tt
freer_set [] (mark ∷ others) n freer = absurd freer
freer_set (mark ∷ used) [] n freer = absurd freer
freer_set (mark ∷ used) (other ∷ others) zero freer = ((λ is. refl), freer.1)
freer_set (mark ∷ used) (other ∷ others) (suc n) freer = (freer.0, freer_set used others n freer.1)

pub freer_all : (borders : List ℕ) (used others : List Bool) → Freer used others
    → Freer (marked_all used borders) (marked_all others borders)
freer_all [] used others freer = freer
freer_all (border ∷ borders) used others freer =
    freer_all borders (set used border true) (set others border true) (freer_set used others border freer)

both_true : (a b c : Bool) → (b ≡ true → c ≡ true) → (a && b) ≡ true → (a && c) ≡ true
both_true true b c makes is = makes is
both_true false b c makes is = is

-- a segment that may be taken
freer_take : (task : Task) (run : PartialRun) (used others : List Bool) (segment : Segment) → Freer used others
    → can_take task run used segment ≡ true → can_take task run others segment ≡ true
freer_take task run used others segment freer =
    both_true (may_come (stop_in (node_at task segment.to)) run segment.to) (misses used segment.borders.items)
    (misses others segment.borders.items)
    (λ free. free_misses others segment.borders.items
    (λ border among marked. misses_free used segment.borders.items free border among
    (freer_marked used others border freer marked)))

-- there is no cap, or one that is no lower, for trains of the same kind
abbrev pub Looser : ℕ → ℕ → ℕ → ℕ → Type 0
Looser before low kind cap = (kind ≡ 0) ⊎ ((before ≡ kind) × (low ≤ cap))

-- the same trains are assigned, with another cap, other earnings and other marks
abbrev pub eased : ℕ → ℕ → Assigned → ℕ → List Bool → Assigned
eased kind cap assigned total used =
    record { next = assigned.next; total = total; kind = kind; cap = cap; used = used }

abbrev eased_state : ℕ → ℕ → State → ℕ → List Bool → State
eased_state kind cap (between assigned) total used = between (eased kind cap assigned total used)
eased_state kind cap (partial assigned run) total used = partial (eased kind cap assigned total used) run

either_true : (a b c : Bool) → (b ≡ true → c ≡ true) → (a || b) ≡ true → (a || c) ≡ true
either_true true b c makes is = refl
either_true false b c makes is = makes is

earns_eased : (before low kind cap most value : ℕ) → Looser before low kind cap
    → may_earn before low most value ≡ true → may_earn kind cap most value ≡ true
earns_eased before low kind cap most value (inl none) may = rw none refl
earns_eased before low kind cap most value (inr same) may =
    either_true (kind == 0 || not (kind == most)) (nat_le value low) (nat_le value cap)
    (λ under. le-leb value cap (omega (arith, leb-true value low under, same.1)))
    (ap (λ (k : ℕ). may_earn k low most value) (sym same.0) ∙ may)

abbrev cap_of : (ℕ → ℕ → Type 0) → State → Type 0
cap_of P (between assigned) = P assigned.kind assigned.cap
cap_of P (partial assigned run) = P assigned.kind assigned.cap

abbrev marks_of : State → List Bool
marks_of (between assigned) = assigned.used
marks_of (partial assigned run) = assigned.used

pub record Eased (task : Task) (kind cap : ℕ) (state : State) (moves : List Move) (total : ℕ)
    (used : List Bool) : Type 0 where
  pub completes : Completes task (eased_state kind cap state total used) moves
  pub earns : total_after task state moves + total
      ≡ total_after task (eased_state kind cap state total used) moves + total_of state

-- what a run earns is earned in both
less_both : (a b total value assigned : ℕ) → a + (total + value) ≡ b + (assigned + value) → a + total ≡ b + assigned
less_both a b total value assigned same = omega arith

within : (a b total bound best : ℕ) → a + 0 ≡ b + total → b ≤ bound → total + bound ≤ best → a ≤ best
within a b total bound best same low enough = omega arith

pub ease : (task : Task) (moves : List Move) (kind cap : ℕ) (state : State) (total : ℕ) (used : List Bool)
    → cap_of (λ before low. Looser before low kind cap) state → Freer (marks_of state) used
    → Completes task state moves → Eased task kind cap state moves total used
ease task [] kind cap (between assigned) total used looser freer completes =
    record { completes = completes; earns = omega arith }
ease task [] kind cap (partial assigned run) total used looser freer completes = absurd completes
ease task (pass ∷ moves) kind cap (between assigned) total used looser freer completes =
    let rest : Eased task kind cap (between (passed assigned)) moves total used =
    ease task moves kind cap (between (passed assigned)) total used looser freer completes.1 in
    record { completes = (completes.0, rest.completes); earns = rest.earns }
ease task (pass ∷ moves) kind cap (partial assigned run) total used looser freer completes = absurd completes.0
ease task (begin stop index segment ∷ moves) kind cap (between assigned) total used looser freer completes =
    let rest : Eased task kind cap (partial (using assigned segment)
    (along task (begun task assigned stop index) segment)) moves total (marked_all used segment.borders.items) =
    ease task moves kind cap (partial (using assigned segment)
    (along task (begun task assigned stop index) segment)) total (marked_all used segment.borders.items) looser
    (freer_all segment.borders.items assigned.used used freer) completes.1 in
    record {
      completes = (
        record {
          train = completes.0.train;
          begins = completes.0.begins;
          token = completes.0.token;
          leads =
              completes.0.leads;
          taken = freer_take task (begun task assigned stop index) assigned.used used segment freer
              completes.0.taken;
        },
        rest.completes,
      );
      earns = rest.earns;
    }
ease task (begin stop index segment ∷ moves) kind cap (partial assigned run) total used looser freer completes =
    absurd completes.0
ease task (go index segment ∷ moves) kind cap (between assigned) total used looser freer completes = absurd completes.0
ease task (go index segment ∷ moves) kind cap (partial assigned run) total used looser freer completes =
    let rest : Eased task kind cap (partial (using assigned segment) (along task run segment)) moves total
    (marked_all used segment.borders.items) = ease task moves kind cap
    (partial (using assigned segment) (along task run segment)) total (marked_all used segment.borders.items)
    looser (freer_all segment.borders.items assigned.used used freer) completes.1 in
    record {
      completes = (
        record {
          passes = completes.0.passes;
          leads = completes.0.leads;
          taken =
              freer_take task run assigned.used used segment freer completes.0.taken;
        },
        rest.completes,
      );
      earns = rest.earns;
    }
ease task (turn index segment ∷ moves) kind cap (between assigned) total used looser freer completes = absurd
    completes.0
ease task (turn index segment ∷ moves) kind cap (partial assigned run) total used looser freer completes =
    let may = completes.0 in
    let rest : Eased task kind cap (partial (using assigned segment) (along task (turned_back run) segment)) moves
    total (marked_all used segment.borders.items) =
    ease task moves kind cap (partial (using assigned segment) (along task (turned_back run) segment)) total
    (marked_all used segment.borders.items) looser (freer_all segment.borders.items assigned.used used freer)
    completes.1 in
    record {
      completes = (
        record {
          once = may.once;
          at_stop = may.at_stop;
          later = may.later;
          passes = may.passes;
          leads =
              may.leads;
          taken = freer_take task (turned_back run) assigned.used used segment freer may.taken;
        },
        rest.completes,
      );
      earns = rest.earns;
    }
ease task (finish ∷ moves) kind cap (between assigned) total used looser freer completes = absurd completes.0
ease task (finish ∷ moves) kind cap (partial assigned run) total used looser freer completes =
    let rest : Eased task run.most run.value (between (with_run_finished assigned run)) moves (total + run.value) used =
    ease task moves run.most run.value (between (with_run_finished assigned run)) (total + run.value) used
    (inr (refl, omega arith)) freer completes.1 in
    record {
      completes = (
        both_true (stop_in (node_at task run.head)) (may_earn assigned.kind assigned.cap run.most run.value)
            (may_earn kind cap run.most run.value) (earns_eased assigned.kind assigned.cap kind cap run.most run.value
            looser) completes.0,
        rest.completes,
      );
      earns = less_both (total_after task (between (with_run_finished assigned run)) moves)
          (total_after task (between (eased run.most run.value (with_run_finished assigned run) (total + run.value)
          used)) moves) total run.value assigned.total rest.earns;
    }

-- what is assigned and what the trains that are left earn by themselves
pub rest_low : (task : Task) (assigned : Assigned) (bound : ℕ) → EarnAtMost task assigned.next bound
    → length assigned.used ≡ 279 → (moves : List Move) → Completes task (between assigned) moves
    → total_after task (between assigned) moves ≤ assigned.total + bound
rest_low task assigned bound most whole moves completes =
    let freer : Freer assigned.used (replicate 279 false) =
    subst (λ (n : ℕ). Freer assigned.used (replicate n false)) whole (freer_none assigned.used) in
    let easy : Eased task 0 0 (between assigned) moves 0 (replicate 279 false) =
    ease task moves 0 0 (between assigned) 0 (replicate 279 false) (inl refl) freer completes in
    within (total_after task (between assigned) moves) (total_after task (between (nothing_before assigned.next)) moves)
    assigned.total bound (assigned.total + bound) easy.earns (most moves easy.completes) (omega arith)

-- what falls short need not be tried
pub is_pruned_by_suffix : (task : Task) (bounds : List ℕ) (assigned : Assigned) (best : Found) → AreBounds task bounds
    → length assigned.used ≡ 279 → assigned.next ≤ length task.trains.items → ArePrunedBySuffix task bounds assigned
    best.amount
    → Explores task (between assigned) best best
is_pruned_by_suffix task bounds assigned best are whole next short =
    explores_bounded task (between assigned) best most
  where
    most : (moves : List Move) → Completes task (between assigned) moves
        → total_after task (between assigned) moves ≤ best.amount
    most moves completes =
        le_trans (rest_low task assigned short.0 (are (length task.trains.items - assigned.next) short.0 assigned.next
        short.1 (omega (arith, next))) whole moves completes) short.2

slice_push : (xs : List ℕ) (x i y : ℕ) → slice_get (xs ++ x ∷ []) i ≡ Some y
    → (slice_get xs i ≡ Some y) ⊎ ((i ≡ length xs) × (x ≡ y))
slice_push [] x zero y is = inr (refl, let e : Some x ≡ Some y = is in cc)
slice_push [] x (suc i) y is = absurd cc
slice_push (z ∷ xs) x zero y is = inl is
slice_push (z ∷ xs) x (suc i) y is =
    elim (slice_push xs x i y is) [ inl old ↦ inl old | inr new ↦ inr (ap suc new.0, new.1) ]

pub solved_none : (task : Task) (found : Found) → found.amount ≡ 0 → marks_in found.move_path ≡ []
    → AreInMemo task found → IsSolved task 0 [] found
solved_none task found nothing empty known =
    record {
      all = refl;
      true_bounds = λ count bound next is. absurd (no_such count bound is);
      known = known;
      earns = λ none. record { moves = []; completes = omega arith; total = sym nothing; marks_are = empty };
    }
  where
    no_such : (count bound : ℕ) → slice_get [] count ≡ Some bound → ⊥
    no_such zero bound is = cc
    no_such (suc count) bound is = cc

-- what is found is earned from a state on, if what was found before is
still_earned :
    (task : Task) (state : State) (old new : Found) → IsTraced task state old new →
    (old.move_path.refused ≡ None → Earns task state (marks_in old.move_path) old.amount)
    → new.move_path.refused ≡ None →
    Earns task state (marks_in new.move_path) new.amount
still_earned task state old new traced earns none =
    elim (traced.recorded none) [
      | inl same ↦
          let before = earns (traced.refused none) in
          record {
            moves = before.moves;
            completes = before.completes;
            total =
                before.total ∙ sym same.amount;
            marks_are = same.marks ∙ before.marks_are;
          }
      | inr better ↦ better.earns
    ]

-- one more train is solved for; with those before it, it may pass
pub solved_more :
    (task : Task) (count : ℕ) (bounds : List ℕ) (old new : Found) (move_path : MovePath)
    → count < length task.trains.items → IsSolved task count bounds old →
    Explores task (between (nothing_before (length task.trains.items - count))) old new
    → IsWritten (Pass ∷ []) new.move_path move_path →
    IsSolved task (count + 1) (bounds ++ new.amount ∷ []) (record new { move_path = move_path })
solved_more task count bounds old new move_path low before explores written =
    record {
      all = length_push bounds ∙ (ap suc before.all ∙ sym (add-one count));
      true_bounds = bounds_more;
      known = explores.known before.known;
      earns = by_pass;
    }
  where
    length_push : (xs : List ℕ) → length (xs ++ new.amount ∷ []) ≡ suc (length xs)
    length_push [] = refl
    length_push (x ∷ xs) = ap suc (length_push xs)

    bounds_more : AreBounds task (bounds ++ new.amount ∷ [])
    bounds_more many bound next is all =
        elim (slice_push bounds new.amount many bound is) [
          | inl known ↦ before.true_bounds many bound next known all
          | inr last ↦
              let here : next ≡ length task.trains.items - count = omega (arith, all, last.0, before.all) in
              subst (λ (n : ℕ). EarnAtMost task n bound) (sym here)
              (subst (EarnAtMost task (length task.trains.items - count)) last.1 (explores.most before.known))
        ]

    by_pass : move_path.refused ≡ None → Earns task
        (between (nothing_before (length task.trains.items - (count + 1)))) (marks_in move_path) new.amount
    by_pass none =
        let next = length task.trains.items - (count + 1) in
        let here : length task.trains.items - count ≡ next + 1 = omega (arith, low) in
        let last : Earns task (between (nothing_before (length task.trains.items - count))) (marks_in new.move_path)
        new.amount = still_earned task (between (nothing_before (length task.trains.items - count))) old new
        explores.traced before.earns (written.refused none) in
        let later : Earns task (between (passed (nothing_before next))) (marks_in new.move_path) new.amount =
        subst (λ (n : ℕ). Earns task (between (nothing_before n)) (marks_in new.move_path) new.amount) here last in
        subst (λ (marks : List Mark). Earns task (between (nothing_before next)) marks new.amount)
        (sym (written.marks_are none))
        (earns_by task (between (nothing_before next)) (between (passed (nothing_before next))) (Pass ∷ [])
        (marks_in new.move_path) new.amount (leads_pass task (nothing_before next) (omega (arith, low))) later)

-- all trains are solved for
pub solved_all :
    (task : Task) (count : ℕ) (bounds : List ℕ) (old new : Found) → count ≡ length task.trains.items →
    IsSolved task (length task.trains.items) bounds old
    → Explores task (between (nothing_before (length task.trains.items - count))) old new →
    new.move_path.refused ≡ None → IsTop task new
solved_all task count bounds old new all before explores granted =
    record {
      earns = still_earned task start old new from_start.traced
          (subst (λ (n : ℕ). old.move_path.refused ≡ None
          → Earns task (between (nothing_before n)) (marks_in old.move_path) old.amount) none before.earns) granted;
      most = from_start.most before.known;
    }
  where
    none : length task.trains.items - length task.trains.items ≡ 0
    none = omega arith

    from_start : Explores task start old new
    from_start =
        let none : length task.trains.items - count ≡ 0 = omega (arith, all) in
        subst (λ (n : ℕ). Explores task (between (nothing_before n)) old new) none explores
