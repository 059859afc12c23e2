-- The words that stand in a cell of a page, where these are constant.
use Rattle.std.specs.Prelude.{ℕ, List, [], codes}
use Rattle.desk_cells.specs.declared.cell.Cell.{Cell}
use Rattle.desk_cells.specs.declared.cell.Cell.TheVariants as cell
use Rattle.events.specs.declared.event.Holder.TheVariants as holder
use Rattle.tables.specs.Roster.{code_of_company, code_of_private}
use Rattle.tables.specs.Train.{code_of_kind}
use Rattle.tables.specs.declared.roster.Company.{Company}
use Rattle.tables.specs.declared.roster.Company.TheVariants as company

-- the name of a company, as a page writes it
abbrev pub name_of : Company → List ℕ
name_of company.Pennsylvania = codes "Pennsylvania"
name_of company.NewYorkCentral = codes "New York Central"
name_of company.CanadianPacific = codes "Canadian Pacific"
name_of company.BaltimoreOhio = codes "Baltimore &amp; Ohio"
name_of company.ChesapeakeOhio = codes "Chesapeake &amp; Ohio"
name_of company.Erie = codes "Erie"
name_of company.NewHaven = codes "New York, New Haven &amp; Hartford"
name_of company.BostonMaine = codes "Boston &amp; Maine"

-- the constant word in a cell; none in others
abbrev pub word_of : Cell → List ℕ
word_of (cell.CompanyCode company) = code_of_company company
word_of (cell.OwnedBy (holder.Company company)) = code_of_company company
word_of (cell.CompanyName company) = name_of company
word_of (cell.PrivateCode private) = code_of_private private
word_of (cell.KindCode kind) = code_of_kind kind
word_of cell.Unsold = codes "unsold"
word_of cell.Closed = codes "closed"
word_of cell.NotStarted = codes "not started"
word_of other = []
