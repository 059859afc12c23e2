-- The sums that a company's orders name are small, as those of its sheet.
use Rattle.std.proofs.Common.{ℕ, Bool, true, false, if◌then◌else◌, List, [], ◌∷◌, map}
use Rattle.sheets.specs.CompanyOrders.{company_orders_for, company_orders_in, opens_orders_of}
use Rattle.sheets.specs.Part.{Part, parts_for}
use Rattle.tables.specs.declared.roster.Company.{Company}
use Rattle.tables.specs.declared.round.Round.{Round}
use Rattle.turns.proofs.Small.{parts_small}
use Rattle.turns.specs.Small.{AreSmall, WrittenTurnsAreSmall}

-- those of the company's first orders among some
small_in : (company : Company) (parts : List Part) → WrittenTurnsAreSmall (map (λ (part : Part). part.lines) parts)
    → AreSmall (company_orders_in company parts)
small_in company [] small = tt
small_in company (part ∷ parts) small =
    elim (opens_orders_of company part.head.reading) as
    (λ (b : Bool). AreSmall (if b then part.lines else company_orders_in company parts)) [
      | true ↦ small.0
      | false ↦ small_in company parts small.1
    ]

-- those of its orders in a sheet
pub orders_small : (file : List ℕ) (round : Round) (seat : ℕ) (company : Company)
    → AreSmall (company_orders_for file round seat company)
orders_small file round seat company = small_in company (parts_for file round seat).opened
    (parts_small file round seat).1
