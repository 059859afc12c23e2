-- A file without a sheet has no orders for a company.
use Rattle.std.proofs.Common.{◌≡◌, ℕ, [], refl}
use Rattle.sheets.specs.CompanyOrders.{company_orders_for}
use Rattle.sheets.specs.File.{body_of, content_of, players_of, sheet_of}
use Rattle.sheets.specs.Text.{written_lines}
use Rattle.tables.specs.declared.roster.Company.{Company}
use Rattle.tables.specs.declared.round.Round.{Round}

pub no_orders : (round : Round) (seat : ℕ) (company : Company) → company_orders_for [] round seat company ≡ []
unfolding sheet_of body_of players_of content_of written_lines
no_orders round seat company = refl
