-- A run from its first step on, and all runs of a set, one train after another.
use Rattle.std.proofs.Common.{◌≡◌, ℕ, zero, suc, ◌+◌, ◌<◌, ◌≤◌, true, inl, inr, List, [], ◌∷◌, ◌++◌, length, get_or}
use Rattle.std.proofs.Common.{set, drop, sym, ap, subst, ◌∙◌, arith, add-one}
use Rattle.std.specs.List.{AllByRecursion}
use Rattle.reach.specs.Position.{Position}
use Rattle.reach.specs.Lawful.{IsLawful}
use Rattle.tables.specs.Train.{stops_of}
use Rattle.tables.specs.declared.rolling_stock.Kind.{Kind}
use Rattle.tables.specs.declared.roster.Company.{Company}
use Rattle.legal_runs.specs.Legal.{AreAtMost, crossed, earned, visited}
use Rattle.legal_runs.specs.Set.{AreApart, RunsLegally, ShareNoBorder, TrainRun, revenue_of_runs}
use Rattle.legal_runs.proofs.Marks.{among_both}
use Rattle.search_task.specs.declared.task.Task.{Task}
use Rattle.best_run.specs.declared.state.Assigned.{Assigned}
use Rattle.search_task.specs.Described.{Describes, most_of, most_of_all}
use Rattle.best_run.specs.Moves.{between, may_earn, pass, passed}
use Rattle.best_run.proofs.Branches.{Used, run_by}
use Rattle.best_run.proofs.Complete.{CanFinish}
use Rattle.best_run.proofs.Few.{few_stops}
use Rattle.best_run.proofs.Prefix.{Holds}
use Rattle.best_run.proofs.Sets.{Avoids, IsBelow, IsSetFor, IsWithin, all_out, apart_out, find_greatest, may_by}
use Rattle.best_run.proofs.Sets.{none_left, one_kind, revenue_out, with_first, without_first}

-- of a list from a place on, what is there, and what comes after it
drop_suc : (xs : List ℕ) (n x : ℕ) (later : List ℕ) → drop n xs ≡ x ∷ later
    → (n < length xs) × (get_or xs n 0 ≡ x) × (drop (suc n) xs ≡ later)
drop_suc [] zero x later is = cc
drop_suc [] (suc n) x later is = cc
drop_suc (y ∷ xs) zero x later is =
    let same : y ≡ x = cc in
    let rest : xs ≡ later = cc in
    (omega arith, same, rest)
drop_suc (y ∷ xs) (suc n) x later is =
    let rest : (n < length xs) × (get_or xs n 0 ≡ x) × (drop (suc n) xs ≡ later) = drop_suc xs n x later is in
    (omega (arith, rest.0), rest.1, rest.2)

pub drop_first : (xs : List ℕ) (n x : ℕ) (later : List ℕ) → drop n xs ≡ x ∷ later
    → (n < length xs) × (get_or xs n 0 ≡ x) × (drop (n + 1) xs ≡ later)
drop_first xs n x later is =
    let parts : (n < length xs) × (get_or xs n 0 ≡ x) × (drop (suc n) xs ≡ later) = drop_suc xs n x later is in
    (parts.0, parts.1, rw add-one parts.2)

pub drop_none : (xs : List ℕ) (n : ℕ) → drop n xs ≡ [] → length xs ≤ n
drop_none [] n is = omega arith
drop_none (y ∷ xs) zero is = cc
drop_none (y ∷ xs) (suc n) is = let rest : length xs ≤ n = drop_none xs n is in omega arith

all_both : {A : Type 0} (P Q R : A → Type 0) → ((x : A) → P x → Q x → R x) → (xs : List A) → AllByRecursion P xs
    → AllByRecursion Q xs → AllByRecursion R xs
all_both P Q R makes [] first second = tt
all_both P Q R makes (x ∷ xs) first second = (makes x first.0 second.0, all_both P Q R makes xs first.1 second.1)

module _ (position : Position) (company : Company) (kinds : List Kind) (task : Task)
    (describes : Describes position company kinds task) where
  -- a legal run holds
  legal_holds : IsLawful position → (kind : Kind) (others : List ℕ) (run : TrainRun)
      → RunsLegally position company run → run.kind ≡ kind → Avoids others run
      → Holds position company (most_of (stops_of kind)) others run.steps
  legal_holds lawful kind others run legal is avoids =
      record {
        walk = legal.walk;
        begins = legal.begins;
        few = few_stops position lawful kind run.steps legal.walk legal.no_border_twice
            (subst (λ k. AreAtMost (stops_of k) (length (visited run.steps))) is legal.most);
        stops = legal.no_stop_twice;
        borders = legal.no_border_twice;
        free = avoids;
        red = legal.no_red_inside;
        full = legal.no_full_inside;
      }

  -- what is left of a set avoids the borders of the run taken out, and those of others
  avoid_both : (others : List ℕ) (run : TrainRun) (other : TrainRun) → ShareNoBorder run.steps other.steps
      → Avoids others other → Avoids (crossed run.steps ++ others) other
  avoid_both others run other share avoids border here there =
      elim ((among_both border (crossed run.steps) others).0 there)
      [ inl own ↦ share border own here | inr used ↦ avoids border here used ]

  -- a run of the next train, step by step
  run_first : IsLawful position → (kind : Kind) (others : List ℕ) (assigned : Assigned) → Used others assigned
      → (total : ℕ) → assigned.next < length task.trains.items
      → get_or task.trains.items assigned.next 0 ≡ most_of (stops_of kind) → (run : TrainRun)
      → RunsLegally position company run → run.kind ≡ kind → Avoids others run
      → may_earn assigned.kind assigned.cap (most_of (stops_of kind)) (earned position run.steps) ≡ true
      → ((after : Assigned) → after.next ≡ assigned.next + 1 → after.total ≡ assigned.total + earned position run.steps
      → after.kind ≡ most_of (stops_of kind) → after.cap ≡ earned position run.steps
      → Used (crossed run.steps ++ others) after → CanFinish task (between after) total)
      → CanFinish task (between assigned) total
  run_first lawful kind others assigned used total train most_is run legal is avoids may done =
      run_by position company lawful kinds task describes others assigned used (most_of (stops_of kind)) train most_is
      total run.steps
      (legal_holds lawful kind others run legal is avoids) legal.ends legal.own_token may done

  -- all runs of a set, train by train
  pub finish_set : IsLawful position → (left : List Kind) (runs : List TrainRun) (others : List ℕ) (assigned : Assigned)
      → Used others assigned → drop assigned.next task.trains.items ≡ most_of_all left
      → IsSetFor position company left others runs → AllByRecursion (IsWithin position assigned.kind assigned.cap) runs
      → CanFinish task (between assigned) (assigned.total + revenue_of_runs position runs)
  finish_set lawful [] runs others assigned used trains set within =
      let none : runs ≡ [] = none_left runs set.each_once in
      let earns : revenue_of_runs position runs ≡ 0 = ap (revenue_of_runs position) none in
      ([], drop_none task.trains.items assigned.next trains, omega arith)
  finish_set lawful (kind ∷ left) runs others assigned used trains set within =
      let next : (assigned.next < length task.trains.items)
      × (get_or task.trains.items assigned.next 0 ≡ most_of (stops_of kind))
      × (drop (assigned.next + 1) task.trains.items ≡ most_of_all left) =
      drop_first task.trains.items assigned.next (most_of (stops_of kind)) (most_of_all left) trains in
      elim (find_greatest position kind runs) [
        | inl has ↦
            let whole : IsSetFor position company (kind ∷ left) others (has.prefix ++ has.run ∷ has.later) =
            subst (IsSetFor position company (kind ∷ left) others) has.is set in
            let legal : RunsLegally position company has.run
            × AllByRecursion (RunsLegally position company) (has.prefix ++ has.later) =
            all_out (RunsLegally position company) has.prefix has.run has.later whole.legal in
            let avoid : Avoids others has.run × AllByRecursion (Avoids others) (has.prefix ++ has.later) =
            all_out (Avoids others) has.prefix has.run has.later whole.avoid in
            let apart : AllByRecursion (λ other. ShareNoBorder has.run.steps other.steps) (has.prefix ++ has.later)
            × AreApart (has.prefix ++ has.later) = apart_out has.prefix has.run has.later whole.apart in
            let low : IsWithin position assigned.kind assigned.cap has.run
            × AllByRecursion (IsWithin position assigned.kind assigned.cap) (has.prefix ++ has.later) =
            all_out (IsWithin position assigned.kind assigned.cap) has.prefix has.run has.later
            (subst (AllByRecursion (IsWithin position assigned.kind assigned.cap)) has.is within) in
            let below : IsBelow position kind has.run has.run
            × AllByRecursion (IsBelow position kind has.run) (has.prefix ++ has.later) =
            all_out (IsBelow position kind has.run) has.prefix has.run has.later
            (subst (AllByRecursion (IsBelow position kind has.run)) has.is has.greatest) in
            let earns : revenue_of_runs position runs ≡ earned position has.run.steps
            + revenue_of_runs position (has.prefix ++ has.later) =
            ap (revenue_of_runs position) has.is ∙ revenue_out position has.prefix has.run has.later in
            run_first lawful kind others assigned used (assigned.total + revenue_of_runs position runs) next.0 next.1 has.run
            legal.0 has.kind_is avoid.0
            (may_by assigned.kind assigned.cap (most_of (stops_of kind)) (earned position has.run.steps)
            (λ same. low.0 (same ∙ ap (λ (k : Kind). most_of (stops_of k)) (sym has.kind_is))))
            (λ after next_is total_is kind_is cap_is used_after.
            let rest : CanFinish task (between after) (after.total + revenue_of_runs position (has.prefix ++ has.later)) =
            finish_set lawful left (has.prefix ++ has.later) (crossed has.run.steps ++ others) after used_after
            (ap (λ n. drop n task.trains.items) next_is ∙ next.2)
            (record {
              legal = legal.1;
              each_once = with_first kind left has.prefix has.run has.later has.kind_is whole.each_once;
              apart = apart.1;
              avoid = all_both (λ other. ShareNoBorder has.run.steps other.steps) (Avoids others)
                  (Avoids (crossed has.run.steps ++ others)) (avoid_both others has.run) (has.prefix ++ has.later)
                  apart.0 avoid.1;
            })
            (all_both (IsBelow position kind has.run) (IsBelow position kind has.run)
            (IsWithin position after.kind after.cap)
            (λ other under under_too same. omega (
              arith,
              cap_is,
              under
                  (sym (one_kind kind other.kind (sym kind_is ∙ same))),
            ))
            (has.prefix ++ has.later) below.1 below.1)
            in (rest.0, rest.1, let total = rest.2 in omega arith))
        | inr none ↦
            let rest : CanFinish task (between (passed assigned)) (assigned.total + revenue_of_runs position runs) =
            finish_set lawful left runs others (passed assigned) (record { used = used.used; whole = used.whole })
            next.2
            (record {
              legal = set.legal;
              each_once = without_first kind left runs none set.each_once;
              apart =
                  set.apart;
              avoid = set.avoid;
            })
            within
            in (pass ∷ rest.0, (next.0, rest.1), rest.2)
      ]
