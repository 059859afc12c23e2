-- SELL: a seat sells shares of a company to the bank pool, as one block. The rules of a sale, what
-- it needs and what follows from it are defined with the certificates.
use Rattle.std.specs.Prelude.{ℕ}
pub use Rattle.certs.specs.SaleAct.{MaySell, after_sale}
use Rattle.certs.specs.declared.share_deal.Sale.{Sale}
use Rattle.tables.specs.declared.roster.Company.{Company}

-- the sale of this many shares of a company
abbrev pub sale_of : Company → ℕ → Sale
sale_of company shares = record { company = company; shares = shares }
