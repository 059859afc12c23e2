use Rattle.std.proofs.Common.{◌≡◌, length}
use Rattle.sheets.specs.CompanyOrders.{company_orders_in}
use Rattle.sheets.specs.Part.{parts_left}
use Rattle.sheets.proofs.parts.PartsLeft.take_to_orders_of.Given as goal

-- what is left has the same company's orders
abbrev pub invariant-loop-line : goal.invariant-loop-line
invariant-loop-line l =
    company_orders_in l.company (parts_left l.self-inside.round l.self-inside.lines).opened
    ≡ company_orders_in l.company l.fn.self.opened

abbrev pub decreases-loop-line : goal.decreases-loop-line
decreases-loop-line l = length l.self-inside.lines.lines
