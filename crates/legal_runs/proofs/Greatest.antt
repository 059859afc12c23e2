-- The greatest revenue: it is that of the best of finitely many legal sets, and at most 160 dollars
-- for each border.
use Rattle.std.proofs.Common.{ℕ, ◌*◌, ◌<◌, ◌≤◌, inl, inr, List, [], ◌∷◌, ◌++◌, length, refl, arith}
use Rattle.std.specs.List.{AllByRecursion}
use Rattle.std.proofs.lemmas.List.{length-append}
use Rattle.reach.specs.Lawful.{IsLawful}
use Rattle.reach.specs.Position.{Position, IsAmong}
use Rattle.tables.specs.declared.rolling_stock.Kind.{Kind}
use Rattle.tables.specs.declared.roster.Company.{Company}
use Rattle.legal_runs.specs.Greatest.{AGreatestExists, MoreTrainsEarnNoLess, OneGreatest, OrderOfTrainsChangesNothing}
use Rattle.legal_runs.specs.Legal.{AreDistinct, crossed, earned}
use Rattle.legal_runs.specs.Set.{AreApart, IsLegalSet, RunsLegally, ShareNoBorder, TrainRun}
use Rattle.legal_runs.specs.Set.{revenue_of_runs}
use Rattle.legal_runs.proofs.Choosing.{choices, set_decided, set_there}
use Rattle.legal_runs.proofs.Counting.{no_more}
use Rattle.legal_runs.proofs.Earning.{few_visited, worth_low}
use Rattle.legal_runs.proofs.Finite.{IsTop, top_of}
use Rattle.legal_runs.proofs.TallyOfWalk.{crossed_low}
use Rattle.legal_runs.proofs.Marks.{among_both}

-- the borders that the walks of some runs cross
abbrev borders_of_runs : List TrainRun → List ℕ
borders_of_runs [] = []
borders_of_runs (run ∷ runs) = crossed run.steps ++ borders_of_runs runs

all_both : (P : ℕ → Type 0) (first second : List ℕ) → AllByRecursion P first → AllByRecursion P second
    → AllByRecursion P (first ++ second)
all_both P [] second one two = two
all_both P (border ∷ first) second one two = (one.0, all_both P first second one.1 two)

distinct_both :
    (first second : List ℕ) → AreDistinct first → AreDistinct second
    → ((border : ℕ) → IsAmong border first → ¬ IsAmong border second) →
    AreDistinct (first ++ second)
distinct_both [] second one two apart = two
distinct_both (border ∷ first) second one two apart = grind (arith, among_both, distinct_both first second one.1 two (λ other among. apart other (inr among)))

runs_low : (runs : List TrainRun) → AllByRecursion (λ border. border < 279) (borders_of_runs runs)
runs_low [] = tt
runs_low (run ∷ runs) = grind (arith, all_both, crossed_low, runs_low runs)

apart_from :
    (run : TrainRun) (runs : List TrainRun) → AllByRecursion
    (λ (other : TrainRun). ShareNoBorder run.steps other.steps) runs → (border : ℕ) →
    IsAmong border (crossed run.steps) → ¬ IsAmong border (borders_of_runs runs)
apart_from run [] apart border among there = there
apart_from run (other ∷ runs) apart border among there =
    elim ((among_both border (crossed other.steps) (borders_of_runs runs)).0 there) [
      | inl here ↦ apart.0 border among here
      | inr later ↦ apart_from run runs apart.1 border among later
    ]

module _ (position : Position) (company : Company) where
  runs_distinct : (runs : List TrainRun) → AllByRecursion (RunsLegally position company) runs → AreApart runs
      → AreDistinct (borders_of_runs runs)
  runs_distinct [] legal apart = tt
  runs_distinct (run ∷ runs) legal apart =
      let one : RunsLegally position company run = legal.0 in
      distinct_both (crossed run.steps) (borders_of_runs runs) one.no_border_twice
      (runs_distinct runs legal.1 apart.1) (apart_from run runs apart.0)

  -- a legal run earns at most 160 dollars for each border that it crosses
  run_earns : IsLawful position → (run : TrainRun) → RunsLegally position company run
      → earned position run.steps ≤ 160 * length (crossed run.steps)
  run_earns lawful run legal = grind (arith, few_visited, worth_low)

  runs_earn :
      IsLawful position → (runs : List TrainRun) → AllByRecursion (RunsLegally position company) runs →
      revenue_of_runs position runs ≤ 160 * length (borders_of_runs runs)
  runs_earn lawful [] legal = omega arith
  runs_earn lawful (run ∷ runs) legal = grind (arith, run_earns, length-append, runs_earn lawful runs legal.1)

  pub set_earns : IsLawful position → (trains : List Kind) (runs : List TrainRun)
      → IsLegalSet position company trains runs → revenue_of_runs position runs ≤ 44640
  set_earns lawful trains runs set =
      omega (
        arith,
        runs_earn lawful runs set.legal,
        no_more 279 (borders_of_runs runs)
            (runs_distinct runs set.legal set.apart) (runs_low runs),
      )

  -- the empty set is legal
  none_runs : (trains : List Kind) → IsLegalSet position company trains []
  none_runs trains = record { legal = tt; each_once = λ kind. omega arith; apart = tt }

pub a_greatest_exists : AGreatestExists
a_greatest_exists position company trains lawful =
    let best : IsTop (IsLegalSet position company trains) (revenue_of_runs position) (choices position company trains) =
    top_of (IsLegalSet position company trains) (revenue_of_runs position) (choices position company trains)
    (set_decided position company trains) [] (none_runs position company trains) in (
      revenue_of_runs position best.top,
      record {
        earned = (best.top, best.such, refl);
        most = λ runs set. best.most runs (set_there position company lawful trains runs set) set;
      },
      omega (arith, set_earns position company lawful trains best.top best.such),
    )

pub one_greatest : OneGreatest
one_greatest position company trains revenue other first second = grind arith

pub more_trains : MoreTrainsEarnNoLess
more_trains position company trains more revenue greater taken first second = grind arith

pub order_of_trains : OrderOfTrainsChangesNothing
order_of_trains position company trains others revenue same greatest = grind arith
