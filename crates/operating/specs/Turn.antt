-- A company's turn. At its first one it places its home token. Then the orders that its president's
-- sheet has for it are ruled, line by line.
--
-- The steps of the turn are lay, token, run, pay and trains. A lay needs the first step and is made
-- once. A token needs one of the first two, and the turn is then past both. A run, or that of the
-- best, needs one of the first three, and the turn is then past its token. To pay or to withhold
-- needs one of the first four, and the turn is then past them.
--
-- A company whose turn is not past its pay withholds by itself when the orders end. Then it buys
-- the train that it must buy, or needs none.
use Rattle.std.specs.Prelude.{◌≡◌, ℕ, List, Option, Some, None}
use Rattle.forced_purchase.specs.declared.operator.Operator.{Operator}
use Rattle.operating.specs.CompanyOrders.{LinesLead}
use Rattle.operating.specs.HomeToken.{with_home}
use Rattle.operating.specs.Pay.{withheld_if_unpaid}
use Rattle.operating.specs.Progress.{at_start}
use Rattle.operating.specs.TurnEnd.{EndLeads}
use Rattle.operating.specs.TurnState.{TurnState, turn_state}
use Rattle.sheets.specs.CompanyOrders.{company_orders_for}
use Rattle.sheets.specs.Part.{Numbered}
use Rattle.tables.specs.declared.roster.Company.{Company}
use Rattle.tables.specs.declared.round.Round.{Round}
use Rattle.tables.specs.declared.seat.Seat.{Seat}
use Rattle.totals.specs.LookBack.{Game}
use Rattle.totals.specs.Shares.{president_of}

-- the orders for a company in the sheet of its president lead to new; without a president there is
-- none
abbrev pub CompanyOrdersLead : List ℕ → Round → Company → TurnState → Option Seat → TurnState → Type 0
CompanyOrdersLead file round company turn None new = new ≡ turn
CompanyOrdersLead file round company turn (Some seat) new =
    LinesLead (record { company = company; president = seat }) turn (company_orders_for file round seat.0 company) new

-- the end of a turn leads to new, by the orders for a company in the sheet of its president
abbrev pub CompanyOrdersEnd : List ℕ → Round → Company → Game → Option Seat → Game → Type 0
CompanyOrdersEnd file round company game None new = new ≡ game
CompanyOrdersEnd file round company game (Some seat) new =
    EndLeads (record { company = company; president = seat }) (company_orders_for file round seat.0 company) game new

-- the orders of a company, these lines of its sheet, lead to new: line by line, then by what it
-- withholds by itself, and by the end of its turn
abbrev pub OrdersLead : Operator → List Numbered → TurnState → Game → Type 0
OrdersLead by lines turn new =
    (last : TurnState) × LinesLead by turn lines last × EndLeads by lines (withheld_if_unpaid by.company last).game new

-- the turn once its home token lies
abbrev pub begun : Game → Company → TurnState
begun game company = turn_state (with_home game company) at_start

-- new is old after the turn of a company in a round with the sheets of the file
pub record IsCompanyTurn (file : List ℕ) (round : Round) (company : Company) (old new : Game) : Type 0 where
  pub last : TurnState
  pub orders : CompanyOrdersLead file round company (begun old company) (president_of old.events company) last
  pub after : CompanyOrdersEnd file round company (withheld_if_unpaid company last).game
      (president_of old.events company) new
