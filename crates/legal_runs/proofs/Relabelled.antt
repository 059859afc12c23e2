-- A legal set for some trains is one for trains of which one may visit more stops. The run of the
-- train that is replaced, if it has one, is then the run of the other.
use Rattle.std.proofs.Common.{◌≡◌, ℕ, ◌+◌, ◌≤◌, ◌⊎◌, inl, inr, Bool, true, false, if◌then◌else◌, List, [], ◌∷◌}
use Rattle.std.proofs.Common.{refl, ap, ◌∙◌, subst, arith}
use Rattle.std.specs.List.{AllByRecursion}
use Rattle.reach.specs.Position.{Position}
use Rattle.reach.specs.declared.walk.WalkStep.{WalkStep}
use Rattle.tables.specs.Train.{same_kind}
use Rattle.tables.specs.declared.rolling_stock.Kind.{Kind}
use Rattle.tables.specs.declared.roster.Company.{Company}
use Rattle.legal_runs.specs.Greatest.{GreaterTrainsEarnNoLess, VisitsAsMany}
use Rattle.legal_runs.specs.Legal.{earned}
use Rattle.legal_runs.specs.Set.{AreApart, AreTakenFrom, IsLegalSet, RunsLegally, ShareNoBorder, TrainRun, in_number}
use Rattle.legal_runs.specs.Set.{revenue_of_runs, trains_that_run}

-- how many trains of a kind one train is
abbrev pub of_kind : Kind → Kind → ℕ
of_kind kind train = if same_kind train kind then 1 else 0

abbrev pub run_of : Kind → List WalkStep → TrainRun
run_of kind steps = record { kind = kind; steps = steps }

-- a run is that of another train where a test says so; otherwise one of the later ones
abbrev replaced : Bool → Kind → TrainRun → List TrainRun → List TrainRun → List TrainRun
replaced true other run runs later = run_of other run.steps ∷ runs
replaced false other run runs later = run ∷ later

-- the first run of a train of a kind becomes that of another
abbrev relabelled : Kind → Kind → List TrainRun → List TrainRun
relabelled kind other [] = []
relabelled kind other (run ∷ runs) = replaced (same_kind run.kind kind) other run runs (relabelled kind other runs)

earns_same : (position : Position) (kind other : Kind) (runs : List TrainRun)
    → revenue_of_runs position (relabelled kind other runs) ≡ revenue_of_runs position runs
earns_same position kind other [] = refl
earns_same position kind other (run ∷ runs) = by_test (same_kind run.kind kind) (earns_same position kind other runs)
  where
    by_test :
        (b : Bool) → revenue_of_runs position (relabelled kind other runs) ≡ revenue_of_runs position runs →
        revenue_of_runs position (replaced b other run runs (relabelled kind other runs))
        ≡ earned position run.steps + revenue_of_runs position runs
    by_test true same = refl
    by_test false same = ap (λ n. earned position run.steps + n) same

-- what holds of the walks of runs holds of them then
all_steps :
    (P : List WalkStep → Type 0) (kind other : Kind) (runs : List TrainRun)
    → AllByRecursion (λ (run : TrainRun). P run.steps) runs →
    AllByRecursion (λ (run : TrainRun). P run.steps) (relabelled kind other runs)
all_steps P kind other [] holds = tt
all_steps P kind other (run ∷ runs) holds = by_test (same_kind run.kind kind) (all_steps P kind other runs holds.1)
  where
    by_test :
        (b : Bool) → AllByRecursion (λ (r : TrainRun). P r.steps) (relabelled kind other runs) →
        AllByRecursion (λ (r : TrainRun). P r.steps) (replaced b other run runs (relabelled kind other runs))
    by_test true later = (holds.0, holds.1)
    by_test false later = (holds.0, later)

still_apart : (kind other : Kind) (runs : List TrainRun) → AreApart runs → AreApart (relabelled kind other runs)
still_apart kind other [] apart = tt
still_apart kind other (run ∷ runs) apart =
    by_test (same_kind run.kind kind) (all_steps (ShareNoBorder run.steps) kind other runs apart.0)
    (still_apart kind other runs apart.1)
  where
    by_test :
        (b : Bool) → AllByRecursion (λ (r : TrainRun). ShareNoBorder run.steps r.steps) (relabelled kind other runs) →
        AreApart (relabelled kind other runs) → AreApart (replaced b other run runs (relabelled kind other runs))
    by_test true first later = (apart.0, apart.1)
    by_test false first later = (first, later)

module _ (position : Position) (company : Company) (kind other : Kind) (as_many : VisitsAsMany kind other) where
  run_still : (run : TrainRun) → same_kind run.kind kind ≡ true → RunsLegally position company run
      → RunsLegally position company (run_of other run.steps)
  run_still run same legal = grind arith

  legal_still :
      (runs : List TrainRun) → AllByRecursion (RunsLegally position company) runs →
      AllByRecursion (RunsLegally position company) (relabelled kind other runs)
  legal_still [] legal = tt
  legal_still (run ∷ runs) legal = by_test (same_kind run.kind kind) refl (legal_still runs legal.1)
    where
      by_test :
          (b : Bool) → same_kind run.kind kind ≡ b → AllByRecursion (RunsLegally position company)
          (relabelled kind other runs) →
          AllByRecursion (RunsLegally position company) (replaced b other run runs (relabelled kind other runs))
      by_test true is later = (run_still run is legal.0, legal.1)
      by_test false is later = (legal.0, later)

-- of the kind none ran, and all is as before; or one ran, and is of the other kind now
abbrev Counted : Kind → Kind → List TrainRun → Type 0
Counted kind other runs =
    ((k : Kind) → (same_kind kind k ≡ true → in_number k (trains_that_run runs) ≡ 0)
    × (in_number k (trains_that_run (relabelled kind other runs)) ≡ in_number k (trains_that_run runs)))
    ⊎ ((k : Kind) → in_number k (trains_that_run (relabelled kind other runs)) + of_kind k kind
    ≡ in_number k (trains_that_run runs) + of_kind k other)

-- so once a test says whether a run is that of the train
abbrev CountedBy : Kind → Kind → TrainRun → List TrainRun → Bool → Type 0
CountedBy kind other run runs b =
    ((k : Kind) → (same_kind kind k ≡ true → of_kind k run.kind + in_number k (trains_that_run runs) ≡ 0)
    × (in_number k (trains_that_run (replaced b other run runs (relabelled kind other runs)))
    ≡ of_kind k run.kind + in_number k (trains_that_run runs)))
    ⊎ ((k : Kind) → in_number k (trains_that_run (replaced b other run runs (relabelled kind other runs)))
    + of_kind k kind ≡ (of_kind k run.kind + in_number k (trains_that_run runs)) + of_kind k other)

counted_still : (kind other : Kind) (runs : List TrainRun) → Counted kind other runs
counted_still kind other [] = inl (λ k. (λ same. refl, refl))
counted_still kind other (run ∷ runs) = by_test (same_kind run.kind kind) refl (counted_still kind other runs)
  where
    by_test : (b : Bool) → same_kind run.kind kind ≡ b → Counted kind other runs → CountedBy kind other run runs b
    by_test true is rest = grind arith
    by_test false is (inl none) = grind arith
    by_test false is (inr one) = inr (λ k. let rest = one k in omega arith)

taken_still :
    (kind other : Kind) (trains : List Kind) (runs : List TrainRun)
    → AreTakenFrom (kind ∷ trains) (trains_that_run runs) →
    AreTakenFrom (other ∷ trains) (trains_that_run (relabelled kind other runs))
taken_still kind other trains runs taken k = by_count (counted_still kind other runs) (same_kind kind k) refl
  where
    by_count :
        Counted kind other runs → (b : Bool) → same_kind kind k ≡ b →
        in_number k (trains_that_run (relabelled kind other runs)) ≤ of_kind k other + in_number k trains
    by_count (inl none) true is = grind arith
    by_count (inl none) false is = grind arith
    by_count (inr one) b is = omega (arith, one k, taken k)

pub greater_trains : GreaterTrainsEarnNoLess
greater_trains position company kind other trains revenue greater as_many first second =
    subst (λ (n : ℕ). n ≤ greater) (earns_same position kind other first.earned.0 ∙ first.earned.2)
    (let set : IsLegalSet position company (kind ∷ trains) first.earned.0 = first.earned.1 in
    second.most (relabelled kind other first.earned.0)
    (record {
      legal = legal_still position company kind other as_many first.earned.0 set.legal;
      each_once = taken_still kind other trains first.earned.0 set.each_once;
      apart = still_apart kind other first.earned.0 set.apart;
    }))
