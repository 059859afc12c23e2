-- Sets of runs: a run of a kind taken out of a set, and what is left for the other trains.
use Rattle.std.proofs.Common.{◌≡◌, ℕ, zero, suc, ◌+◌, ◌-◌, ◌≤◌, ◌==◌, Bool, true, false, not, ◌||◌, nat_le}
use Rattle.std.proofs.Common.{if◌then◌else◌, ◌⊎◌, inl, inr, List, [], ◌∷◌, ◌++◌, refl, sym, ap, ◌∙◌, arith, le_trans}
use Rattle.std.specs.List.{AllByRecursion}
use Rattle.std.proofs.lemmas.Bool.{eqb-true, le-leb}
use Rattle.best_run.proofs.Split.{either_way}
use Rattle.reach.specs.Position.{Position, IsAmong}
use Rattle.tables.specs.Train.{same_kind, stops_of}
use Rattle.tables.specs.declared.rolling_stock.Kind.{Kind}
use Rattle.tables.specs.declared.rolling_stock.Kind.TheVariants.{Two, Three, Four, Five, Six, Diesel}
use Rattle.tables.specs.declared.roster.Company.{Company}
use Rattle.tables.proofs.TrainKinds.{kind_is, kind_itself}
use Rattle.legal_runs.specs.Legal.{crossed, earned}
use Rattle.best_run.specs.Moves.{may_earn}
use Rattle.legal_runs.specs.Set.{AreApart, AreTakenFrom, RunsLegally, ShareNoBorder, TrainRun, in_number}
use Rattle.legal_runs.specs.Set.{revenue_of_runs, trains_that_run}
use Rattle.search_task.specs.Described.{most_of}

-- a kind is one of six
abbrev kind_at : ℕ → Kind
kind_at zero = Two
kind_at (suc zero) = Three
kind_at (suc (suc zero)) = Four
kind_at (suc (suc (suc zero))) = Five
kind_at (suc (suc (suc (suc zero)))) = Six
kind_at (suc (suc (suc (suc (suc n))))) = Diesel

-- a run crosses no border of some
abbrev pub Avoids : List ℕ → TrainRun → Type 0
Avoids others run = (border : ℕ) → IsAmong border (crossed run.steps) → ¬ IsAmong border others

-- a set for some trains that avoids some borders
pub record IsSetFor (position : Position) (company : Company) (trains : List Kind) (others : List ℕ)
    (runs : List TrainRun) : Type 0 where
  pub legal : AllByRecursion (RunsLegally position company) runs
  pub each_once : AreTakenFrom trains (trains_that_run runs)
  pub apart : AreApart runs
  pub avoid : AllByRecursion (Avoids others) runs

-- all but one of some runs
pub all_out : (P : TrainRun → Type 0) (prefix : List TrainRun) (run : TrainRun) (later : List TrainRun)
    → AllByRecursion P (prefix ++ run ∷ later) → P run × AllByRecursion P (prefix ++ later)
all_out P [] run later all = all
all_out P (first ∷ prefix) run later all =
    let rest : P run × AllByRecursion P (prefix ++ later) = all_out P prefix run later all.1 in
    (rest.0, (all.0, rest.1))

pub revenue_out : (position : Position) (prefix : List TrainRun) (run : TrainRun) (later : List TrainRun)
    → revenue_of_runs position (prefix ++ run ∷ later) ≡ earned position run.steps + revenue_of_runs position (prefix ++ later)
revenue_out position [] run later = refl
revenue_out position (first ∷ prefix) run later = omega (arith, revenue_out position prefix run later)

pub number_out : (kind : Kind) (prefix : List TrainRun) (run : TrainRun) (later : List TrainRun)
    → in_number kind (trains_that_run (prefix ++ run ∷ later))
    ≡ in_number kind (run.kind ∷ trains_that_run (prefix ++ later))
number_out kind [] run later = refl
number_out kind (first ∷ prefix) run later = let rest = number_out kind prefix run later in omega arith

share_back : (first second : TrainRun) → ShareNoBorder first.steps second.steps → ShareNoBorder second.steps first.steps
share_back first second share border here there = share border there here

pub apart_out : (prefix : List TrainRun) (run : TrainRun) (later : List TrainRun) → AreApart (prefix ++ run ∷ later)
    → AllByRecursion (λ other. ShareNoBorder run.steps other.steps) (prefix ++ later) × AreApart (prefix ++ later)
apart_out [] run later apart = apart
apart_out (first ∷ prefix) run later apart =
    let rest : AllByRecursion (λ other. ShareNoBorder run.steps other.steps) (prefix ++ later)
    × AreApart (prefix ++ later) = apart_out prefix run later apart.1 in
    let shares : ShareNoBorder first.steps run.steps
    × AllByRecursion (λ other. ShareNoBorder first.steps other.steps) (prefix ++ later) =
    all_out (λ other. ShareNoBorder first.steps other.steps) prefix run later apart.0 in
    ((share_back first run shares.0, rest.0), (shares.1, rest.1))

-- a run earns no more than a cap, if it is of the kind that the cap is for
abbrev pub IsWithin : Position → ℕ → ℕ → TrainRun → Type 0
IsWithin position most cap run = most ≡ most_of (stops_of run.kind) → earned position run.steps ≤ cap

either_third : (a b c : Bool) → (b ≡ true → c ≡ true) → ((a || not b) || c) ≡ true
either_third true b c makes = refl
either_third false true c makes = makes refl
either_third false false c makes = refl

pub may_by : (kind cap most value : ℕ) → (kind ≡ most → value ≤ cap) → may_earn kind cap most value ≡ true
may_by kind cap most value low =
    either_third (kind == 0) (kind == most) (nat_le value cap)
    (λ same. le-leb value cap (low (eqb-true kind most same)))

kind_with : (kind : Kind) → kind_at (most_of (stops_of kind) - 2) ≡ kind
kind_with Two = refl
kind_with Three = refl
kind_with Four = refl
kind_with Five = refl
kind_with Six = refl
kind_with Diesel = refl

-- kinds that may visit equally many stops are one
pub one_kind : (a b : Kind) → most_of (stops_of a) ≡ most_of (stops_of b) → a ≡ b
one_kind a b same = sym (kind_with a) ∙ (ap (λ (n : ℕ). kind_at (n - 2)) same ∙ kind_with b)

-- another run, if it is of a kind, earns no more than a run
abbrev pub IsBelow : Position → Kind → TrainRun → TrainRun → Type 0
IsBelow position kind run other = other.kind ≡ kind → earned position other.steps ≤ earned position run.steps

-- a run of a kind that earns the most of those of its kind, among others
pub record HasGreatest (position : Position) (kind : Kind) (runs : List TrainRun) : Type 0 where
  pub prefix : List TrainRun
  pub run : TrainRun
  pub later : List TrainRun
  pub is : runs ≡ prefix ++ run ∷ later
  pub kind_is : run.kind ≡ kind
  pub greatest : AllByRecursion (IsBelow position kind run) runs

one_or_none : (test : Bool) (n : ℕ) → test ≡ false → n ≡ 0 → (if test then 1 else 0) + n ≡ 0
one_or_none true n fails none = absurd cc
one_or_none false n fails none = omega arith

none_here : (test : Bool) (n : ℕ) → (if test then 1 else 0) + n ≡ 0 → (test ≡ true → ⊥) × (n ≡ 0)
none_here true n none = absurd (omega (arith, none))
none_here false n none = ((λ is. let wrong : false ≡ true = is in cc), omega (arith, none))

-- no run is of the kind
none_below : (position : Position) (kind : Kind) (run : TrainRun) (runs : List TrainRun)
    → in_number kind (trains_that_run runs) ≡ 0 → AllByRecursion (IsBelow position kind run) runs
none_below position kind run [] none = tt
none_below position kind run (first ∷ runs) none =
    let parts : (same_kind first.kind kind ≡ true → ⊥) × (in_number kind (trains_that_run runs) ≡ 0) =
    none_here (same_kind first.kind kind) (in_number kind (trains_that_run runs)) none in (
      (λ is. absurd (parts.0 (ap (λ k. same_kind k kind) is ∙ kind_itself kind))),
      none_below position kind run runs
          parts.1,
    )

-- a run that earns more
below_more : (position : Position) (kind : Kind) (run more : TrainRun)
    → earned position run.steps ≤ earned position more.steps → (runs : List TrainRun)
    → AllByRecursion (IsBelow position kind run) runs → AllByRecursion (IsBelow position kind more) runs
below_more position kind run more low [] below = tt
below_more position kind run more low (other ∷ runs) below =
    ((λ is. le_trans (below.0 is) low), below_more position kind run more low runs below.1)

-- a set has a run of a kind that earns the most of them, or none
pub find_greatest : (position : Position) (kind : Kind) (runs : List TrainRun)
    → HasGreatest position kind runs ⊎ (in_number kind (trains_that_run runs) ≡ 0)
find_greatest position kind [] = inr refl
find_greatest position kind (first ∷ runs) = by_test (find_greatest position kind runs) (same_kind first.kind kind) refl
  where
    by_rest : same_kind first.kind kind ≡ false → HasGreatest position kind runs
        ⊎ (in_number kind (trains_that_run runs) ≡ 0) → HasGreatest position kind (first ∷ runs)
        ⊎ (in_number kind (trains_that_run (first ∷ runs)) ≡ 0)
    by_rest fails (inl has) =
        inl (record {
          prefix = first ∷ has.prefix;
          run = has.run;
          later = has.later;
          is = ap (λ rs. first ∷ rs) has.is;
          kind_is = has.kind_is;
          greatest = (
            (λ is. absurd (let wrong : true ≡ false =
                sym (kind_itself kind) ∙ (sym (ap (λ k. same_kind k kind) is) ∙ fails) in cc)),
            has.greatest,
          );
        })
    by_rest fails (inr none) = inr (one_or_none (same_kind first.kind kind) (in_number kind (trains_that_run runs))
        fails none)

    by_order : same_kind first.kind kind ≡ true → (has : HasGreatest position kind runs)
        → (earned position has.run.steps ≤ earned position first.steps)
        ⊎ (earned position first.steps ≤ earned position has.run.steps) → HasGreatest position kind (first ∷ runs)
    by_order is has (inl more) =
        record {
          prefix = [];
          run = first;
          later = runs;
          is = refl;
          kind_is = kind_is first.kind kind is;
          greatest = ((λ same. omega arith), below_more position kind has.run first more runs has.greatest);
        }
    by_order is has (inr less) =
        record {
          prefix = first ∷ has.prefix;
          run = has.run;
          later = has.later;
          is = ap (λ rs. first ∷ rs) has.is;
          kind_is = has.kind_is;
          greatest = ((λ same. less), has.greatest);
        }

    by_found : same_kind first.kind kind ≡ true → HasGreatest position kind runs
        ⊎ (in_number kind (trains_that_run runs) ≡ 0) → HasGreatest position kind (first ∷ runs)
    by_found is (inl has) = by_order is has (either_way (earned position has.run.steps) (earned position first.steps))
    by_found is (inr none) =
        record {
          prefix = [];
          run = first;
          later = runs;
          is = refl;
          kind_is = kind_is first.kind kind is;
          greatest = ((λ same. omega arith), none_below position kind first runs none);
        }

    by_test : HasGreatest position kind runs ⊎ (in_number kind (trains_that_run runs) ≡ 0) → (test : Bool)
        → same_kind first.kind kind ≡ test → HasGreatest position kind (first ∷ runs)
        ⊎ (in_number kind (trains_that_run (first ∷ runs)) ≡ 0)
    by_test rest true is = inl (by_found is rest)
    by_test rest false is = by_rest is rest

if_one : (test : Bool) → test ≡ true → ◌≡◌ {A = ℕ} (if test then 1 else 0) 1
if_one true is = refl
if_one false is = absurd cc

too_many : (one n : ℕ) → one ≡ 1 → one + n ≤ 0 → ⊥
too_many one n is low = absurd (omega arith)

one_less : (all one other rest left : ℕ) → all ≡ one + rest → one ≡ other → all ≤ other + left → rest ≤ left
one_less all one other rest left is same low = omega arith

-- a set for no trains is empty
pub none_left : (runs : List TrainRun) → AreTakenFrom [] (trains_that_run runs) → runs ≡ []
none_left [] taken = refl
none_left (run ∷ runs) taken =
    absurd (too_many (if same_kind run.kind run.kind then 1 else 0) (in_number run.kind (trains_that_run runs))
    (if_one (same_kind run.kind run.kind) (kind_itself run.kind)) (taken run.kind))

if_low : (test : Bool) (n m : ℕ) → (test ≡ true → n ≡ 0) → n ≤ (if test then 1 else 0) + m → n ≤ m
if_low true n m none low = let e : n ≡ 0 = none refl in omega arith
if_low false n m none low = omega arith

-- a set with no run of the first train is one for the others
pub without_first : (kind : Kind) (trains : List Kind) (runs : List TrainRun)
    → in_number kind (trains_that_run runs) ≡ 0 → AreTakenFrom (kind ∷ trains) (trains_that_run runs)
    → AreTakenFrom trains (trains_that_run runs)
without_first kind trains runs none taken other =
    if_low (same_kind kind other) (in_number other (trains_that_run runs)) (in_number other trains)
    (λ same. ap (λ k. in_number k (trains_that_run runs)) (sym (kind_is kind other same)) ∙ none) (taken other)

-- a run of the first train taken out leaves a set for the others
pub with_first : (kind : Kind) (trains : List Kind) (prefix : List TrainRun) (run : TrainRun) (later : List TrainRun)
    → run.kind ≡ kind → AreTakenFrom (kind ∷ trains) (trains_that_run (prefix ++ run ∷ later))
    → AreTakenFrom trains (trains_that_run (prefix ++ later))
with_first kind trains prefix run later is taken other =
    one_less (in_number other (trains_that_run (prefix ++ run ∷ later))) (if same_kind run.kind other then 1 else 0)
    (if same_kind kind other then 1 else 0) (in_number other (trains_that_run (prefix ++ later)))
    (in_number other trains)
    (number_out other prefix run later)
    (ap (λ k. if same_kind k other then 1 else 0) is)
    (taken other)
