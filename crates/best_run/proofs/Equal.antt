-- Trains of one kind, one after another. None of them earns more than the one before, so together
-- they earn at most the cap of the first for each of them.
use Rattle.std.proofs.Common.{◌≡◌, ℕ, zero, suc, ◌+◌, ◌*◌, ◌<◌, ◌≤◌, Bool, true, false, not, ◌&&◌, ◌||◌, ◌==◌, nat_le}
use Rattle.std.proofs.Common.{List, [], ◌∷◌, length, get_or, refl, sym, subst, ◌∙◌, arith, suc-mul}
use Rattle.std.proofs.lemmas.Bool.{eq-eqb, eqb-true, leb-true}
use Rattle.search_task.specs.declared.task.Segment.{Segment}
use Rattle.search_task.specs.declared.task.Task.{Task}
use Rattle.best_run.specs.declared.memo.Found.{Found}
use Rattle.best_run.specs.declared.state.Assigned.{Assigned}
use Rattle.best_run.specs.declared.state.PartialRun.{PartialRun}
use Rattle.best_run.specs.Moves.{Completes, Explores, Move, State, along, begin, begun, between, go, may_earn, partial}
use Rattle.best_run.specs.Moves.{pass, passed, finish, total_after, total_of, turn, turned_back, using}
use Rattle.best_run.specs.Moves.{with_run_finished}
use Rattle.search_task.specs.Spots.{node_at, stop_in}
use Rattle.best_run.specs.Suffix.{AreEqual, ArePrunedByCap, EarnAtMost}
use Rattle.best_run.proofs.Eased.{rest_low}
use Rattle.search_task.proofs.Marks.{length_marked}
use Rattle.best_run.proofs.Traced.{explores_bounded}
use Rattle.search_task.proofs.Booleans.{both_second}

third_of : (a b c : Bool) → (a ≡ true → ⊥) → b ≡ true → ((a || not b) || c) ≡ true → c ≡ true
third_of true b c none is may = absurd (none refl)
third_of false true c none is may = may
third_of false false c none is may = absurd (let wrong : false ≡ true = is in cc)

is_none : (n : ℕ) → 0 < n → (n == 0) ≡ true → ⊥
is_none n some is = let none : n ≡ 0 = eqb-true n 0 is in absurd (omega (arith, some, none))

-- a run of the kind that ran last
capped_value : (kind cap most value : ℕ) → 0 < kind → kind ≡ most → may_earn kind cap most value ≡ true → value ≤ cap
capped_value kind cap most value some same may =
    leb-true value cap (third_of (kind == 0) (kind == most) (nat_le value cap) (is_none kind some)
    (eq-eqb kind most same) may)

-- a run that earns more than it may is never finished
pub no_dearer : (task : Task) (moves : List Move) (assigned : Assigned) (run : PartialRun) → 0 < assigned.kind
    → assigned.kind ≡ run.most → assigned.cap < run.value → Completes task (partial assigned run) moves → ⊥
no_dearer task [] assigned run some same dear completes = completes
no_dearer task (pass ∷ moves) assigned run some same dear completes = completes.0
no_dearer task (begin stop index segment ∷ moves) assigned run some same dear completes = completes.0
no_dearer task (go index segment ∷ moves) assigned run some same dear completes =
    no_dearer task moves (using assigned segment) (along task run segment) some same (omega (arith, dear)) completes.1
no_dearer task (turn index segment ∷ moves) assigned run some same dear completes =
    no_dearer task moves (using assigned segment) (along task (turned_back run) segment) some same
    (omega (arith, dear)) completes.1
no_dearer task (finish ∷ moves) assigned run some same dear completes =
    let low : run.value ≤ assigned.cap = capped_value assigned.kind assigned.cap run.most run.value some same
    (both_second (stop_in (node_at task run.head)) (may_earn assigned.kind assigned.cap run.most run.value)
    completes.0) in
    absurd (omega (arith, low, dear))

pub one_more : (all total count cap bound : ℕ) → all ≤ total + (count * cap + bound)
    → all ≤ total + (suc count * cap + bound)
one_more all total count cap bound low = omega (arith, low, suc-mul count cap)

one_ran : (all total value count cap bound : ℕ) → value ≤ cap → all ≤ total + value + (count * cap + bound)
    → all ≤ total + (suc count * cap + bound)
one_ran all total value count cap bound small low = omega (arith, low, small, suc-mul count cap)

module _ (task : Task) (most cap bound : ℕ) (some : 0 < most) where
  -- this many of the trains that are left are of the kind, each within the cap, and the others earn
  -- within the bound
  record Left (assigned : Assigned) (count : ℕ) : Type 0 where
    pub equal : AreEqual task assigned.next count most
    pub kind : assigned.kind ≡ most
    pub within : assigned.cap ≤ cap
    pub whole : length assigned.used ≡ 279
    pub rest : EarnAtMost task (assigned.next + count) bound

  abbrev LeftAt : State → ℕ → Type 0
  LeftAt (between assigned) count = Left assigned count
  LeftAt (partial assigned run) count = (0 < count) × (run.most ≡ most) × Left assigned count

  left_passed : (assigned : Assigned) (count : ℕ) → Left assigned (suc count) → Left (passed assigned) count
  left_passed assigned count left =
      record {
        equal = λ train low. let here : assigned.next + suc train ≡ assigned.next + 1 + train =
            omega arith in subst (λ (n : ℕ). get_or task.trains.items n 0 ≡ most) here
            (left.equal (suc train) (omega (arith, low)));
        kind = left.kind;
        within = left.within;
        whole = left.whole;
        rest = let here : assigned.next + suc count ≡ assigned.next + 1 + count =
            omega arith in subst (λ (n : ℕ). EarnAtMost task n bound) here left.rest;
      }

  left_using : (assigned : Assigned) (segment : Segment) (count : ℕ) → Left assigned count
      → Left (using assigned segment) count
  left_using assigned segment count left =
      record {
        equal = left.equal;
        kind = left.kind;
        within = left.within;
        whole = length_marked assigned.used segment.borders.items ∙ left.whole;
        rest = left.rest;
      }

  left_assigned : (assigned : Assigned) (run : PartialRun) (count : ℕ) → run.most ≡ most → run.value ≤ cap
      → Left assigned (suc count) → Left (with_run_finished assigned run) count
  left_assigned assigned run count same small left =
      record {
        equal = λ train low. let here : assigned.next + suc train ≡ assigned.next + 1 + train =
            omega arith in subst (λ (n : ℕ). get_or task.trains.items n 0 ≡ most) here
            (left.equal (suc train) (omega (arith, low)));
        kind = same;
        within = small;
        whole = left.whole;
        rest = let here : assigned.next + suc count ≡ assigned.next + 1 + count =
            omega arith in subst (λ (n : ℕ). EarnAtMost task n bound) here left.rest;
      }

  next_is : (assigned : Assigned) (count : ℕ) → Left assigned (suc count)
      → get_or task.trains.items assigned.next 0 ≡ most
  next_is assigned count left =
      let here : assigned.next + 0 ≡ assigned.next = omega arith in subst
      (λ (n : ℕ). get_or task.trains.items n 0 ≡ most) here (left.equal 0 (omega arith))

  small_value : (assigned : Assigned) (run : PartialRun) (count : ℕ) → run.most ≡ most → Left assigned count
      → (stop_in (node_at task run.head) && may_earn assigned.kind assigned.cap run.most run.value) ≡ true
      → run.value ≤ cap
  small_value assigned run count same left may =
      let under : run.value ≤ assigned.cap = capped_value assigned.kind assigned.cap run.most run.value
      (omega (arith, left.kind, some)) (left.kind ∙ sym same)
      (both_second (stop_in (node_at task run.head)) (may_earn assigned.kind assigned.cap run.most run.value) may) in
      omega (arith, under, left.within)

  no_more : (assigned : Assigned) → Left assigned 0 → (moves : List Move) → Completes task (between assigned) moves
      → total_after task (between assigned) moves ≤ assigned.total + (0 * cap + bound)
  no_more assigned left moves completes =
      let same : assigned.next + 0 ≡ assigned.next = omega arith in
      let here : EarnAtMost task assigned.next bound = subst (λ (n : ℕ). EarnAtMost task n bound) same left.rest in
      omega (arith, rest_low task assigned bound here left.whole moves completes)

  low_from : (moves : List Move) (state : State) (count : ℕ) → LeftAt state count → Completes task state moves
      → total_after task state moves ≤ total_of state + (count * cap + bound)
  low_from [] (between assigned) count left completes = omega arith
  low_from [] (partial assigned run) count left completes = absurd completes
  low_from (pass ∷ moves) (between assigned) zero left completes = no_more assigned left (pass ∷ moves) completes
  low_from (pass ∷ moves) (between assigned) (suc count) left completes =
      one_more (total_after task (between (passed assigned)) moves) assigned.total count cap bound
      (low_from moves (between (passed assigned)) count (left_passed assigned count left) completes.1)
  low_from (pass ∷ moves) (partial assigned run) count left completes = absurd completes.0
  low_from (begin stop index segment ∷ moves) (between assigned) zero left completes =
      no_more assigned left (begin stop index segment ∷ moves) completes
  low_from (begin stop index segment ∷ moves) (between assigned) (suc count) left completes =
      low_from moves (partial (using assigned segment) (along task (begun task assigned stop index) segment))
      (suc count) (omega arith, next_is assigned count left, left_using assigned segment (suc count) left) completes.1
  low_from (begin stop index segment ∷ moves) (partial assigned run) count left completes = absurd completes.0
  low_from (go index segment ∷ moves) (between assigned) count left completes = absurd completes.0
  low_from (go index segment ∷ moves) (partial assigned run) count left completes =
      low_from moves (partial (using assigned segment) (along task run segment)) count
      (left.0, left.1, left_using assigned segment count left.2) completes.1
  low_from (turn index segment ∷ moves) (between assigned) count left completes = absurd completes.0
  low_from (turn index segment ∷ moves) (partial assigned run) count left completes =
      low_from moves (partial (using assigned segment) (along task (turned_back run) segment)) count
      (left.0, left.1, left_using assigned segment count left.2) completes.1
  low_from (finish ∷ moves) (between assigned) count left completes = absurd completes.0
  low_from (finish ∷ moves) (partial assigned run) zero left completes = absurd (omega (arith, left.0))
  low_from (finish ∷ moves) (partial assigned run) (suc count) left completes =
      let small : run.value ≤ cap = small_value assigned run (suc count) left.1 left.2 completes.0 in
      one_ran (total_after task (between (with_run_finished assigned run)) moves) assigned.total run.value count cap
      bound small
      (low_from moves (between (with_run_finished assigned run)) count
      (left_assigned assigned run count left.1 small left.2) completes.1)

  -- what is assigned, the cap for each of the equal trains, and what the others earn by themselves
  pub low_assigned : (count : ℕ) (assigned : Assigned) → AreEqual task assigned.next count most → assigned.kind ≡ most
      → assigned.cap ≤ cap → length assigned.used ≡ 279 → EarnAtMost task (assigned.next + count) bound
      → (moves : List Move) → Completes task (between assigned) moves
      → total_after task (between assigned) moves ≤ assigned.total + (count * cap + bound)
  low_assigned count assigned equal kind small whole rest moves completes =
      low_from moves (between assigned) count (record
      { equal = equal; kind = kind; within = small; whole = whole; rest = rest }) completes

-- what is capped need not be tried
pub explores_capped : (task : Task) (assigned : Assigned) (best : Found) → length assigned.used ≡ 279
    → ArePrunedByCap task assigned.next assigned.kind assigned.cap assigned.total best.amount
    → Explores task (between assigned) best best
explores_capped task assigned best whole capped =
    explores_bounded task (between assigned) best most
  where
    most : (moves : List Move) → Completes task (between assigned) moves
        → total_after task (between assigned) moves ≤ best.amount
    most moves completes =
        omega (
          arith,
          capped.short,
          low_assigned task assigned.kind assigned.cap capped.bound capped.some capped.equal
              assigned capped.are_equal refl (omega arith) whole capped.rest moves completes,
        )
