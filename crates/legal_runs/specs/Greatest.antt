-- The laws of the greatest revenue, whatever lies. There is exactly one, and it is less than 50,000
-- dollars. More trains do not make it less, nor does a train that may visit more stops in place of
-- another. The order of the trains changes nothing.
use Rattle.std.specs.Prelude.{◌≡◌, ℕ, ◌<◌, ◌≤◌, List, ◌∷◌}
use Rattle.reach.specs.Lawful.{IsLawful}
use Rattle.reach.specs.Position.{Position}
use Rattle.tables.specs.Train.{stops_of}
use Rattle.tables.specs.declared.rolling_stock.Kind.{Kind}
use Rattle.tables.specs.declared.roster.Company.{Company}
use Rattle.legal_runs.specs.Legal.{AreAtMost}
use Rattle.legal_runs.specs.Set.{AreTakenFrom, IsGreatest, in_number}

-- there is a greatest revenue, of less than 50,000 dollars
abbrev pub AGreatestExists : Type 0
AGreatestExists =
    (position : Position) (company : Company) (trains : List Kind) →
    IsLawful position → (revenue : ℕ) × IsGreatest position company trains revenue × (revenue < 50000)

-- there is no second one
abbrev pub OneGreatest : Type 0
OneGreatest =
    (position : Position) (company : Company) (trains : List Kind) (revenue other : ℕ) →
    IsGreatest position company trains revenue → IsGreatest position company trains other → revenue ≡ other

-- more trains never earn less
abbrev pub MoreTrainsEarnNoLess : Type 0
MoreTrainsEarnNoLess =
    (position : Position) (company : Company) (trains more : List Kind) (revenue greater : ℕ)
    → AreTakenFrom more trains →
    IsGreatest position company trains revenue → IsGreatest position company more greater → revenue ≤ greater

-- a train of another kind may visit as many stops as one of this kind
abbrev pub VisitsAsMany : Kind → Kind → Type 0
VisitsAsMany kind other = (count : ℕ) → AreAtMost (stops_of kind) count → AreAtMost (stops_of other) count

-- a greater train in place of a smaller never earns less
abbrev pub GreaterTrainsEarnNoLess : Type 0
GreaterTrainsEarnNoLess =
    (position : Position) (company : Company) (kind other : Kind) (trains : List Kind) (revenue greater : ℕ)
    → VisitsAsMany kind other →
    IsGreatest position company (kind ∷ trains) revenue → IsGreatest position company (other ∷ trains) greater
    → revenue ≤ greater

-- these are as many trains of each kind
abbrev pub AreSameTrains : List Kind → List Kind → Type 0
AreSameTrains trains others = (kind : Kind) → in_number kind trains ≡ in_number kind others

-- the order of trains changes nothing
abbrev pub OrderOfTrainsChangesNothing : Type 0
OrderOfTrainsChangesNothing =
    (position : Position) (company : Company) (trains others : List Kind) (revenue : ℕ) → AreSameTrains trains others →
    IsGreatest position company trains revenue → IsGreatest position company others revenue
