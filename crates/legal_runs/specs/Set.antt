-- A legal set of runs of a company: some of its trains, each with the walk that it runs. Each walk
-- is a legal run of such a train. Each train runs at most once, so no kind has more runs than
-- trains. No border is crossed by two of the walks, though they may meet at stops. A set earns what
-- its runs earn; the empty set is legal, and earns nothing. The greatest revenue is what some legal
-- set earns and no legal set exceeds. Nothing here depends on how it is found.
use Rattle.std.specs.Prelude.{◌≡◌, ℕ, ◌+◌, ◌≤◌, ℤ, pos, if◌then◌else◌, List, [], ◌∷◌}
use Rattle.std.specs.List.{AllByRecursion}
use Rattle.reach.specs.Position.{Position, IsAmong}
use Rattle.reach.specs.declared.walk.WalkStep.{WalkStep}
use Rattle.tables.specs.Train.{same_kind}
use Rattle.tables.specs.declared.rolling_stock.Kind.{Kind}
use Rattle.tables.specs.declared.roster.Company.{Company}
use Rattle.legal_runs.specs.Legal.{IsLegalRun, crossed, earned}

-- a train of a kind, with the walk that it runs
pub record TrainRun : Type 0 where
  pub kind : Kind
  pub steps : List WalkStep

-- the trains that run
abbrev pub trains_that_run : List TrainRun → List Kind
trains_that_run [] = []
trains_that_run (run ∷ runs) = run.kind ∷ trains_that_run runs

-- how many of some trains are of a kind
abbrev pub in_number : Kind → List Kind → ℕ
in_number kind [] = 0
in_number kind (train ∷ trains) = (if same_kind train kind then 1 else 0) + in_number kind trains

-- some trains are taken from others, each at most once
abbrev pub AreTakenFrom : List Kind → List Kind → Type 0
AreTakenFrom trains taken = (kind : Kind) → in_number kind taken ≤ in_number kind trains

-- a walk is a legal run of a train, as it would be if no other train ran
abbrev pub RunsLegally : Position → Company → TrainRun → Type 0
RunsLegally position company run = IsLegalRun position company run.kind [] run.steps

-- no border is crossed by two walks
abbrev pub ShareNoBorder : List WalkStep → List WalkStep → Type 0
ShareNoBorder steps others = (border : ℕ) → IsAmong border (crossed steps) → ¬ IsAmong border (crossed others)

-- no border is crossed by the walks of two of the runs
abbrev pub AreApart : List TrainRun → Type 0
AreApart [] = Unit {0}
AreApart (run ∷ runs) = AllByRecursion (λ other. ShareNoBorder run.steps other.steps) runs × AreApart runs

-- a legal set of runs for the trains of a company
pub record IsLegalSet (position : Position) (company : Company) (trains : List Kind) (runs : List TrainRun) : Type
    0 where
  pub legal : AllByRecursion (RunsLegally position company) runs
  pub each_once : AreTakenFrom trains (trains_that_run runs)
  pub apart : AreApart runs

-- what a set of runs earns, in dollars
abbrev pub revenue_of_runs : Position → List TrainRun → ℕ
revenue_of_runs position [] = 0
revenue_of_runs position (run ∷ runs) = earned position run.steps + revenue_of_runs position runs

-- the greatest revenue: some legal set earns it, and none earns more
pub record IsGreatest (position : Position) (company : Company) (trains : List Kind) (revenue : ℕ) : Type 0 where
  pub earned : (runs : List TrainRun)
      × IsLegalSet position company trains runs × (revenue_of_runs position runs ≡ revenue)
  pub most : (runs : List TrainRun) → IsLegalSet position company trains runs → revenue_of_runs position runs ≤ revenue

-- a sum of money is the greatest revenue
abbrev pub IsGreatestMoney : Position → Company → List Kind → ℤ → Type 0
IsGreatestMoney position company trains money =
    (revenue : ℕ) × (money ≡ pos revenue) × IsGreatest position company trains revenue
