-- What joins marks to the legal sets. A claim that is accepted has the greatest revenue, whoever
-- made its marks. What is written for the greatest revenue are marks that hold, whatever fills up
-- the last digit.
use Rattle.std.specs.Prelude.{◌≡◌, ◌↔◌, ℕ, Bool, Some, List, [], ◌∷◌, ◌++◌}
use Rattle.map_tables.specs.declared.place.Stop.{Stop}
use Rattle.reach.specs.Lawful.{IsLawful}
use Rattle.reach.specs.Position.{Position}
use Rattle.tables.specs.declared.rolling_stock.Kind.{Kind}
use Rattle.tables.specs.declared.roster.Company.{Company}
use Rattle.certificate.specs.Holding.{AreFilling, AreMarks, AreReached, AreReadAsMarks, Hold, IsAcceptedClaim}
use Rattle.certificate.specs.Holding.{Writes, left_over}
use Rattle.legal_runs.specs.Set.{IsGreatest}
use Rattle.certificate.specs.Tree.{Node, root_of}
use Rattle.legal_runs.specs.declared.claim.Claim.{Claim}

-- a claim that is accepted has the greatest revenue
abbrev pub AcceptedIsGreatest : Type 0
AcceptedIsGreatest = (position : Position) (company : Company) (trains : List Kind) (claim : Claim) (bits : List Bool) →
    IsLawful position → IsAcceptedClaim position company trains claim bits
    → IsGreatest position company trains claim.revenue

-- marks hold at a node exactly if they are read over it, and none is left over
abbrev pub MarksHoldWhereRead : Type 0
MarksHoldWhereRead =
    (position : Position) (company : Company) (reached : List Stop) (revenue : ℕ) (node : Node) (marks : List Bool) →
    Hold position company reached revenue node marks
    ↔ (left_over position company reached revenue (node ∷ []) marks ≡ Some [])

-- bits are marks exactly if they are read as such, at the stops that are reached
abbrev pub MarksAreRead : Type 0
MarksAreRead =
    (position : Position) (company : Company) (trains : List Kind) (reached : List Stop) (revenue : ℕ)
    (bits : List Bool) →
    AreReached position company reached →
    AreMarks position company trains revenue bits ↔ AreReadAsMarks position company trains reached revenue bits

-- what is written over the root for the greatest revenue are marks for it, with what fills up the
-- last digit
abbrev pub WrittenMarksHold : Type 0
WrittenMarksHold =
    (position : Position) (company : Company) (trains : List Kind) (reached : List Stop) (revenue : ℕ)
    (marks filling : List Bool) →
    IsLawful position → AreReached position company reached → IsGreatest position company trains revenue →
    Writes position company reached revenue (root_of trains ∷ []) marks → AreFilling filling →
    AreMarks position company trains revenue (marks ++ filling)
