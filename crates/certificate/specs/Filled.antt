-- Marks are kept as bits and printed as hexadecimal digits, the last of which is filled up with 0
-- bits. As they are written they hold, whatever fills it up.
use Rattle.std.specs.Prelude.{ℕ, Bool, List, ◌++◌}
use Rattle.reach.specs.Position.{Position}
use Rattle.tables.specs.declared.rolling_stock.Kind.{Kind}
use Rattle.tables.specs.declared.roster.Company.{Company}
use Rattle.certificate.specs.Holding.{AreFilling, AreMarks, IsAcceptedClaim}
use Rattle.legal_runs.specs.declared.claim.Claim.{Claim}

-- bits are marks for a revenue, whatever fills them up
abbrev pub AreMarksFilled : Position → Company → List Kind → ℕ → List Bool → Type 0
AreMarksFilled position company trains revenue bits =
    (filling : List Bool) → AreFilling filling → AreMarks position company trains revenue (bits ++ filling)

-- a claim is accepted by bits, whatever fills them up
abbrev pub IsAcceptedFilled : Position → Company → List Kind → Claim → List Bool → Type 0
IsAcceptedFilled position company trains claim bits =
    (filling : List Bool) → AreFilling filling → IsAcceptedClaim position company trains claim (bits ++ filling)
