-- A company's orders in the sheet of a seat for an operating round. A sheet may have more than one
-- head for a company: the first of them counts.
use Rattle.std.specs.Prelude.{ℕ, Bool, false, if◌then◌else◌, List, [], ◌∷◌, Result, Ok}
use Rattle.order_grammar.specs.declared.fault.Fault.{Fault}
use Rattle.order_grammar.specs.declared.order.Order.{Order}
use Rattle.order_grammar.specs.declared.order.Order.TheVariants as order
use Rattle.sheets.specs.Part.{Numbered, Part, parts_for}
use Rattle.tables.specs.Roster.{same_company}
use Rattle.tables.specs.declared.roster.Company.{Company}
use Rattle.tables.specs.declared.round.Round.{Round}

-- a head with this reading opens this company's orders
abbrev pub opens_orders_of : Company → Result Order Fault → Bool
opens_orders_of company (Ok (order.Company named)) = same_company named company
opens_orders_of company other = false

-- the company's orders among these parts, those of its first head; without one there are none
abbrev pub company_orders_in : Company → List Part → List Numbered
company_orders_in company [] = []
company_orders_in company (part ∷ parts) = if opens_orders_of company part.head.reading then part.lines else
    company_orders_in company parts

-- the company's orders in the sheet of a seat for a round; without a sheet there are none
abbrev pub company_orders_for : List ℕ → Round → ℕ → Company → List Numbered
company_orders_for file round seat company = company_orders_in company (parts_for file round seat).opened
