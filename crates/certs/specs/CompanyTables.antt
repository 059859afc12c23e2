-- What the events of a game say of its companies, in tables by the places of the companies. They
-- have the shares at each place, the president as it was last said, and the square of the token.
use Rattle.std.specs.Prelude.{◌≡◌, List, [], ℤ, pos, slice_index_or}
use Rattle.certs.specs.ShareRow.{AreBounded, HasPlace, index_of}
use Rattle.certs.specs.declared.company_tables.CompanyTables.{CompanyTables}
use Rattle.events.specs.declared.event.Event.{Event}
use Rattle.events.specs.declared.event.Shareholder.{Shareholder}
use Rattle.totals.specs.Shares.{president_of, shares_of, square_of}
use Rattle.totals.specs.Totals.{at_company}
use Rattle.tables.specs.Roster.{index_of_company}
use Rattle.tables.specs.declared.roster.Company.{Company}

-- the shares of a company at a place, by the rows
abbrev pub shares_in_rows : List (List ℤ) → Company → Shareholder → ℤ
shares_in_rows rows company place = slice_index_or (slice_index_or rows (index_of_company company) []) (index_of place)
    (pos 0)

-- the row of a company has its shares
abbrev pub IsRowOf : List Event → Company → List ℤ → Type 0
IsRowOf events company row = (place : Shareholder) → HasPlace place
    → slice_index_or row (index_of place) (pos 0) ≡ shares_of events company place

-- the shares are those of a list of events
abbrev pub AreSharesOf : List Event → List (List ℤ) → Type 0
AreSharesOf events rows =
    (company : Company) (place : Shareholder) → HasPlace place
    → shares_in_rows rows company place ≡ shares_of events company place

-- the tables are those of a list of events
pub record AreCompanyTablesOf (events : List Event) (tables : CompanyTables) : Type 0 where
  pub shares : AreSharesOf events tables.shares
  pub presidents : (company : Company) → at_company tables.presidents company ≡ president_of events company
  pub squares : (company : Company) → at_company tables.squares company ≡ square_of events company
  pub bounded : AreBounded tables.shares
