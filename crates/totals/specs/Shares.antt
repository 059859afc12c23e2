-- Shares of the companies, in shares; their par values, squares and presidents; which have floated,
-- and what a seat has sold in a round. A company is started once its token has a square, at first
-- that of its par value.
use Rattle.std.specs.Prelude.{ℕ, ◌==◌, Bool, true, false, if◌then◌else◌, List, [], ◌∷◌, Option, Some, None, ℤ, pos}
use Rattle.std.specs.Prelude.{◌+ℤ◌, is_some, unwrap_or, ◌&&◌}
use Rattle.events.specs.Event.{floated_by, office_of, par_set, square_set, transfer_of}
use Rattle.events.specs.declared.event.Event.{Event}
use Rattle.events.specs.declared.event.Office.{Office}
use Rattle.events.specs.declared.event.ParValue.{ParValue}
use Rattle.events.specs.declared.event.Placement.{Placement}
use Rattle.events.specs.declared.event.Shareholder.{Shareholder}
use Rattle.events.specs.declared.event.Shareholder.TheVariants.{InitialOffering, BankPool, Seat as OfSeat}
use Rattle.events.specs.declared.event.Transfer.{Transfer}
use Rattle.totals.specs.LookBack.{balance, in_round, last_place_from, last_said, now_said}
use Rattle.tables.specs.Roster.{same_company}
use Rattle.tables.specs.Seat.{all_seats}
use Rattle.tables.specs.declared.roster.Company.{Company}
use Rattle.tables.specs.declared.seat.Seat.{Seat}
use Rattle.tables.specs.declared.squares.Square.{Square}

-- two places of shares are the same
abbrev pub same_shareholder : Shareholder → Shareholder → Bool
same_shareholder InitialOffering InitialOffering = true
same_shareholder BankPool BankPool = true
same_shareholder (OfSeat a) (OfSeat b) = a.0 == b.0
same_shareholder other another = false

-- the shares of a company that a transfer adds to a place
abbrev pub brought_to : Company → Shareholder → Option Transfer → ℕ
brought_to company place None = 0
brought_to company place (Some transfer) =
    if same_company transfer.company company then (if same_shareholder transfer.to
    place then transfer.shares else 0) else 0

-- the shares of a company that a transfer takes from a place
abbrev pub taken_from : Company → Shareholder → Option Transfer → ℕ
taken_from company place None = 0
taken_from company place (Some transfer) =
    if same_company transfer.company company then (if same_shareholder transfer.from
    place then transfer.shares else 0) else 0

-- the shares of a company that lie at a place at first: all are in the initial offering
abbrev pub start_shares : Shareholder → ℕ
start_shares InitialOffering = 10
start_shares other = 0

-- the shares of a company at a place
abbrev pub shares_of : List Event → Company → Shareholder → ℤ
shares_of events company place = balance (start_shares place) (λ event. brought_to company place (transfer_of event))
    (λ event. taken_from company place (transfer_of event)) events

-- what is said of a company's par value
abbrev pub par_said : Company → Option ParValue → Option ℕ
par_said company None = None
par_said company (Some par) = if same_company par.company company then Some par.price else None

-- a company's par value
abbrev pub par_of : List Event → Company → Option ℕ
par_of events company = last_said (λ event. par_said company (par_set event)) events

-- what is said of a company's square
abbrev pub square_said : Company → Option Placement → Option Square
square_said company None = None
square_said company (Some placement) = if same_company placement.company company then Some placement.square else None

-- the square of a company's token
abbrev pub square_of : List Event → Company → Option Square
square_of events company = last_said (λ event. square_said company (square_set event)) events

-- a company is started
abbrev pub is_started : List Event → Company → Bool
is_started events company = is_some (square_of events company)

-- the place in the list of the event that set the square of a company's token; 0 if none did
abbrev pub arrival_of : List Event → Company → ℕ
arrival_of events company = unwrap_or (last_place_from (λ event. square_said company (square_set event)) 0 events) 0

-- what is said of a company's president
abbrev pub president_said : Company → Option Office → Option Seat
president_said company None = None
president_said company (Some office) = if same_company office.company company then Some office.president else None

-- a company's president
abbrev pub president_of : List Event → Company → Option Seat
president_of events company = last_said (λ event. president_said company (office_of event)) events

-- what is said of a company's float
abbrev pub float_said : Company → Option Company → Option Company
float_said company None = None
float_said company (Some floated) = if same_company floated company then Some floated else None

-- a company has floated
abbrev pub is_floated : List Event → Company → Bool
is_floated events company = is_some (last_said (λ event. float_said company (floated_by event)) events)

-- what is said of a seat's sale of shares of a company: how many go from the seat to the bank pool
abbrev pub sale_said : Company → Seat → Option Transfer → Option ℕ
sale_said company seat None = None
sale_said company seat (Some transfer) =
    if same_company transfer.company company && (same_shareholder transfer.from (OfSeat seat)
    && same_shareholder transfer.to BankPool) then Some transfer.shares else None

-- a seat has sold shares of a company since the last round began
abbrev pub has_sold_in_round : List Event → Company → Seat → Bool
has_sold_in_round events company seat =
    is_some (now_said (in_round (λ event. sale_said company seat (transfer_of event))) events)

-- the shares of a company that these seats hold
abbrev pub held_by : List Event → Company → List Seat → ℤ
held_by events company [] = pos 0
held_by events company (seat ∷ others) = shares_of events company (OfSeat seat) +ℤ held_by events company others

-- the shares of a company with the bank and at the table
abbrev pub shares_in_all : ℕ → List Event → Company → ℤ
shares_in_all seats events company =
    (shares_of events company InitialOffering +ℤ shares_of events company BankPool) +ℤ held_by events company
    (all_seats seats)
