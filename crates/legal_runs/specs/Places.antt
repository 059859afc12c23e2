-- How many places the runs of a claim have.
use Rattle.std.specs.Prelude.{◌≤◌, List, length}
use Rattle.std.specs.List.{AllByRecursion}
use Rattle.map_tables.specs.declared.place.Place.{Place}
use Rattle.reach.specs.Position.{Position}
use Rattle.tables.specs.declared.rolling_stock.Kind.{Kind}
use Rattle.tables.specs.declared.roster.Company.{Company}
use Rattle.legal_runs.specs.Claim.{ClaimHolds}
use Rattle.legal_runs.specs.declared.claim.Claim.{Claim}

-- 2 to 280, as a line that names a run may have
abbrev pub HasPlaces : List Place → Type 0
HasPlaces run = (2 ≤ length run) × (length run ≤ 280)

-- if a claim holds, this many places name each run
abbrev pub ClaimsHavePlaces : Type 0
ClaimsHavePlaces =
    (position : Position) (company : Company) (trains : List Kind) (claim : Claim) →
    ClaimHolds position company trains claim → AllByRecursion (λ claimed. HasPlaces claimed.run) claim.runs
