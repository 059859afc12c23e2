-- What each column shows of a row. A row that has no such thing shows nothing there.
use Rattle.std.specs.Prelude.{ℕ, ℤ, pos, ◌+ℤ◌, ◌==◌, ◌&&◌, Bool, false, if◌then◌else◌, List, Option, Some, None, is_none}
use Rattle.desk_cells.specs.declared.cell.Cell.{Cell}
use Rattle.desk_cells.specs.declared.cell.Cell.TheVariants.{Nothing, Blank, Number, Sum, Of, Unlimited, Flag, PlayerName}
use Rattle.desk_cells.specs.declared.cell.Cell.TheVariants.{CompanyCode, CompanyName, PrivateCode, KindCode, RoundName}
use Rattle.desk_cells.specs.declared.cell.Cell.TheVariants.{SquareName, SquareAndPlace, PriceAndSquare, Held, OwnedBy}
use Rattle.desk_cells.specs.declared.cell.Cell.TheVariants.{Unsold, Closed, NotStarted, NotFloated, RustsAt, TrainsOf}
use Rattle.desk_cells.specs.declared.cell.Cell.TheVariants.{TokensOf, PrivatesOf, BidsOn, HexesOf, SharesIn}
use Rattle.desk_cells.specs.declared.cell.Holding.{Holding}
use Rattle.desk_cells.specs.declared.field.Field.{Field}
use Rattle.desk_cells.specs.declared.field.Field.TheVariants as field
use Rattle.desk_cells.specs.declared.field.TableRow.{TableRow}
use Rattle.desk_cells.specs.declared.field.TableRow.TheVariants.{OfPlayer, OfPrivate, OfCompany, OfTrain}
use Rattle.desk_cells.specs.declared.rows.CompanyRow.{CompanyRow}
use Rattle.desk_cells.specs.declared.rows.PlayerRow.{PlayerRow}
use Rattle.desk_cells.specs.declared.rows.PrivateRow.{PrivateRow}
use Rattle.desk_cells.specs.declared.rows.TrainRow.{TrainRow}
use Rattle.events.specs.declared.event.Event.{Event}
use Rattle.events.specs.declared.event.Holder.{Holder}
use Rattle.events.specs.declared.event.Holder.TheVariants as holder
use Rattle.events.specs.declared.event.Shareholder.TheVariants as shareholder
use Rattle.tables.specs.Chart.{price_of}
use Rattle.tables.specs.declared.roster.Company.{Company}
use Rattle.tables.specs.declared.rolling_stock.Kind.{Kind}
use Rattle.tables.specs.declared.round.Round.{Round}
use Rattle.tables.specs.declared.seat.Seat.{Seat}
use Rattle.tables.specs.declared.squares.Square.{Square}
use Rattle.totals.specs.Shares.{president_of, shares_of}

-- a president, if there is one, is the player of this seat
abbrev pub presides : Option Seat → Seat → Bool
presides None seat = false
presides (Some president) seat = president.0 == seat.0

-- what a player holds of a company
abbrev pub holding_of : List Event → Company → Seat → Holding
holding_of events company seat =
    record {
      shares = shares_of events company (shareholder.Seat seat);
      presides = presides (president_of events company) seat;
    }

-- a player
abbrev pub player_cell : List Event → PlayerRow → Field → Cell
player_cell events row field.Name = PlayerName row.seat
player_cell events row field.Cash = Number row.cash
player_cell events row field.CashBefore = Number row.cash_before
player_cell events row field.Free = Number row.free
player_cell events row field.Certificates = Number row.certificates
player_cell events row field.CertificatesOf = Of row.certificates (pos row.limit)
player_cell events row field.Worth = Number row.worth
player_cell events row field.Rank = Number (pos row.rank)
player_cell events row (field.SharesOf company) = Held (holding_of events company row.seat)
player_cell events row field.Privates = PrivatesOf (holder.Seat row.seat)
player_cell events row other = Nothing

-- the price of a private, while it is unsold
abbrev pub price_cell : PrivateRow → Cell
price_cell row = if row.is_sold then Nothing else Number (pos row.price)

-- this holder, if there is one; without one a private is closed, or not sold yet
abbrev pub owned_cell : Bool → Option Holder → Cell
owned_cell is_sold None = if is_sold then Closed else Unsold
owned_cell is_sold (Some holder) = OwnedBy holder

-- who owns a private, or why nobody does
abbrev pub owner_cell : PrivateRow → Cell
owner_cell row = owned_cell row.is_sold row.owner

-- a private
abbrev pub private_cell : PrivateRow → Field → Cell
private_cell row field.Name = PrivateCode row.private
private_cell row field.Face = Number (pos row.face)
private_cell row field.Price = price_cell row
private_cell row field.Revenue = Number (pos row.revenue)
private_cell row field.Hexes = HexesOf row.private
private_cell row field.Owner = owner_cell row
private_cell row field.Bids = BidsOn row.private
private_cell row field.IsClosed = Flag (row.is_sold && is_none row.owner)
private_cell row other = Nothing

-- the name of a player, if there is one
abbrev pub player_name : Option Seat → Cell
player_name None = Nothing
player_name (Some seat) = PlayerName seat

-- a number, if there is one
abbrev pub number_or_nothing : Option ℤ → Cell
number_or_nothing None = Nothing
number_or_nothing (Some number) = Number number

-- a sum that was earned in a round, if there is such a round
abbrev pub earned_cell : ℤ → Option Round → Cell
earned_cell revenue None = Nothing
earned_cell revenue (Some round) = Sum revenue

-- what a company last earned; nothing if it has never operated
abbrev pub revenue_cell : CompanyRow → Cell
revenue_cell row = earned_cell row.revenue row.revenue_round

-- the name of a round, if there is one
abbrev pub round_cell : Option Round → Cell
round_cell None = Nothing
round_cell (Some round) = RoundName round

-- the trains of a company, or why it does not operate
abbrev pub trains_cell : CompanyRow → Cell
trains_cell row =
    if row.operates then TrainsOf row.company else if row.is_started then NotFloated row.offering else NotStarted

-- the price of a square, if there is one
abbrev pub priced_square : Option Square → Cell
priced_square None = Nothing
priced_square (Some square) = Number (pos (price_of square))

-- a square, if there is one
abbrev pub square_cell : Option Square → Cell
square_cell None = Nothing
square_cell (Some square) = SquareName square

-- the place below so many others in a stack, if there is a square
abbrev pub place_on : ℕ → Option Square → Cell
place_on above None = Nothing
place_on above (Some square) = Number (pos above +ℤ pos 1)

-- the place of a company's token in its stack, if it has one
abbrev pub place_cell : CompanyRow → Cell
place_cell row = place_on row.above row.square

-- a square with the place below so many others in its stack, if there is a square
abbrev pub square_with : ℕ → Option Square → Cell
square_with above None = Nothing
square_with above (Some square) = SquareAndPlace square (pos above +ℤ pos 1)

-- the square of a company's token with the place in the stack there, if it has one
abbrev pub square_and_place : CompanyRow → Cell
square_and_place row = square_with row.above row.square

-- a square with its price, if there is one
abbrev pub price_and_square : Option Square → Cell
price_and_square None = Nothing
price_and_square (Some square) = PriceAndSquare square

-- a company on the stock market: its par value, its shares that no player holds, and its token
abbrev pub company_stock_cell : CompanyRow → Field → Cell
company_stock_cell row field.Par = number_or_nothing row.par
company_stock_cell row field.Offering = Number row.offering
company_stock_cell row field.Pool = Number row.pool
company_stock_cell row field.Price = priced_square row.square
company_stock_cell row field.Square = square_cell row.square
company_stock_cell row field.Place = place_cell row
company_stock_cell row field.SquareAndPlace = square_and_place row
company_stock_cell row field.PriceAndSquare = price_and_square row.square
company_stock_cell row field.PriceAndSquareBefore = price_and_square row.square_before
company_stock_cell row other = Nothing

-- a company; what only one that operates has is blank for others
abbrev pub company_cell : List Event → CompanyRow → Field → Cell
company_cell events row field.Name = CompanyCode row.company
company_cell events row field.FullName = CompanyName row.company
company_cell events row field.IsStarted = Flag row.is_started
company_cell events row field.Operates = Flag row.operates
company_cell events row field.President = player_name row.president
company_cell events row field.Cash = Sum row.cash
company_cell events row field.Treasury = if row.operates then Sum row.cash else Blank
company_cell events row field.Revenue = revenue_cell row
company_cell events row field.LastRun = if row.operates then revenue_cell row else Blank
company_cell events row field.RevenueRound = round_cell row.revenue_round
company_cell events row field.LastRunRound = if row.operates then round_cell row.revenue_round else Blank
company_cell events row field.Trains = trains_cell row
company_cell events row field.Tokens = TokensOf row.company
company_cell events row field.Left = Number (pos row.tokens_left)
company_cell events row field.Privates = PrivatesOf (holder.Company row.company)
company_cell events row field.Shares = SharesIn row.company
company_cell events row (field.SharesAt seat) = Held (holding_of events row.company seat)
company_cell events row other = company_stock_cell row other

-- a count; if there is none, there is no limit
abbrev pub number_or_all : Option ℕ → Cell
number_or_all None = Unlimited
number_or_all (Some count) = Number (pos count)

-- with which kind a train rusts, if it does
abbrev pub rust_cell : Option Kind → Cell
rust_cell None = Nothing
rust_cell (Some kind) = RustsAt kind

-- a kind of train
abbrev pub train_cell : TrainRow → Field → Cell
train_cell row field.Name = KindCode row.kind
train_cell row field.Left = number_or_all row.left
train_cell row field.Pool = Number row.pool
train_cell row field.Price = Number (pos row.price)
train_cell row field.Stops = number_or_all row.stops
train_cell row field.Rusts = rust_cell row.rusts
train_cell row other = Nothing

-- a row of any table
abbrev pub cell_of : List Event → TableRow → Field → Cell
cell_of events (OfPlayer row) field = player_cell events row field
cell_of events (OfPrivate row) field = private_cell row field
cell_of events (OfCompany row) field = company_cell events row field
cell_of events (OfTrain row) field = train_cell row field
