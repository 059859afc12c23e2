-- A claim: what a company's trains earn, and runs that earn it, in full by their places. It
-- holds if these places name the walks of a legal set of runs for the trains, and the set earns
-- what is claimed.
use Rattle.std.specs.Prelude.{◌≡◌, Some, List, [], ◌∷◌}
use Rattle.reach.specs.Position.{Position}
use Rattle.tables.specs.declared.rolling_stock.Kind.{Kind}
use Rattle.tables.specs.declared.roster.Company.{Company}
use Rattle.legal_runs.specs.Named.{walk_named}
use Rattle.legal_runs.specs.Set.{IsLegalSet, TrainRun, revenue_of_runs}
use Rattle.legal_runs.specs.declared.claim.Claim.{Claim}
use Rattle.legal_runs.specs.declared.claim.ClaimedRun.{ClaimedRun}

-- the places of claimed runs name the walks of some runs, each of a train of its kind
abbrev pub NameRuns : Position → List ClaimedRun → List TrainRun → Type 0
NameRuns position [] [] = Unit {0}
NameRuns position [] (run ∷ runs) = ⊥
NameRuns position (claimed ∷ others) [] = ⊥
NameRuns position (claimed ∷ others) (run ∷ runs) =
    (claimed.kind ≡ run.kind) × (walk_named position claimed.run ≡ Some run.steps) × NameRuns position others runs

-- a claim holds
abbrev pub ClaimHolds : Position → Company → List Kind → Claim → Type 0
ClaimHolds position company trains claim =
    (runs : List TrainRun) × NameRuns position claim.runs runs × IsLegalSet position company trains runs
    × (revenue_of_runs position runs ≡ claim.revenue)
