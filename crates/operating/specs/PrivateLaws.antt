-- A private that is closed stays so in a company's turn.
use Rattle.std.specs.Prelude.{ℕ, List}
use Rattle.totals.specs.LookBack.{Game}
use Rattle.operating.specs.Turn.{IsCompanyTurn}
use Rattle.purchases.specs.PrivateLaws.{KeepsClosed}
use Rattle.tables.specs.declared.roster.Company.{Company}
use Rattle.tables.specs.declared.round.Round.{Round}

-- each private that is closed before a company's turn is closed after it
abbrev pub ClosedStaysClosed : Type 0
ClosedStaysClosed =
    (file : List ℕ) (round : Round) (company : Company) (old new : Game) →
    IsCompanyTurn file round company old new → KeepsClosed old.events new.events
