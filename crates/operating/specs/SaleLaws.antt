-- Sales to companies in a company's turn: whoever sells has agreed.
use Rattle.std.specs.Prelude.{ℕ, List}
use Rattle.totals.specs.LookBack.{Game}
use Rattle.operating.specs.Turn.{IsCompanyTurn}
use Rattle.purchases.specs.SaleLaws.{SellersAgree}
use Rattle.tables.specs.declared.roster.Company.{Company}
use Rattle.tables.specs.declared.round.Round.{Round}

-- each company's turn keeps each sale to a company agreed by the part of the list before it
abbrev pub TurnsKeepAgreed : Type 0
TurnsKeepAgreed =
    (file : List ℕ) (round : Round) (company : Company) (old new : Game) →
    IsCompanyTurn file round company old new → SellersAgree old.events → SellersAgree new.events
