-- The statement after a round: what each player holds, what each started company has, and the
-- bank's cash.
use Rattle.std.specs.Prelude.{◌≡◌, ℕ, zero, suc, if◌then◌else◌, List, [], ◌∷◌, ◌++◌, codes, decimal}
use Rattle.std.specs.Prelude.{Option, Some, None}
use Rattle.certs.specs.Counted.{counted_of}
use Rattle.std.specs.List.{flat_map, range_with_len}
use Rattle.std.specs.Fmt.{signed_decimal}
use Rattle.events.specs.Event.{party_at}
use Rattle.events.specs.declared.event.Event.{Event}
use Rattle.events.specs.declared.event.Holder.TheVariants as holder
use Rattle.events.specs.declared.event.Party.{Party}
use Rattle.events.specs.declared.event.Party.TheVariants as party
use Rattle.events.specs.declared.event.Shareholder.{Shareholder}
use Rattle.events.specs.declared.event.Shareholder.TheVariants.{InitialOffering, BankPool, Seat as OfSeat}
use Rattle.totals.specs.LookBack.{Game, cash_of, is_owner, owner_in, owner_of}
use Rattle.totals.specs.Operating.{tokens_placed}
use Rattle.totals.specs.Shares.{president_of, shares_of, square_of}
use Rattle.totals.specs.Trains.{at_least_zero, trains_held}
use Rattle.totals.specs.declared.owners.Owners.{Owners}
use Rattle.report.specs.Column.{left_aligned, right_aligned}
use Rattle.report.specs.Line.{name_of}
use Rattle.tables.specs.Chart.{price_of}
use Rattle.tables.specs.Roster.{code_of_company, code_of_private, companies, privates}
use Rattle.tables.specs.Train.{code_of_kind, kinds}
use Rattle.tables.specs.declared.rolling_stock.Kind.{Kind}
use Rattle.tables.specs.declared.roster.Company.{Company}
use Rattle.tables.specs.declared.roster.Private.{Private}
use Rattle.tables.specs.declared.seat.Seat.{Seat}
use Rattle.tables.specs.declared.squares.Square.{Square}

-- the owners of the privates, looked up before
abbrev pub AreOwnersIn : List Event → Owners → Type 0
AreOwnersIn events owners = (private : Private) → owner_in owners private ≡ owner_of events private

-- the code of a private after a space, if the seat owns it
abbrev pub code_owned : List Event → Seat → Private → List ℕ
code_owned events seat private = if is_owner seat (owner_of events private) then 32 ∷ code_of_private private else []

-- the codes of the privates that a seat owns, in roster order
unfoldable pub codes_owned : List Event → Seat → List ℕ
codes_owned events seat = flat_map (λ private. code_owned events seat private) privates

-- the shares of a company at a place, in their column
unfoldable pub shares_column : List Event → Company → Shareholder → List ℕ
shares_column events company place = right_aligned 3 (signed_decimal (shares_of events company place))

-- what a party has, in its column
unfoldable pub cash_column : Game → Party → List ℕ
cash_column game party = right_aligned 6 (signed_decimal (cash_of game.seats game.events party))

-- how many of a seat's certificates count, in their column
unfoldable pub counted_column : List Event → Seat → List ℕ
counted_column events seat = right_aligned 3 (signed_decimal (counted_of events seat))

-- the shares of the eight companies that a seat holds
unfoldable pub holdings : List Event → Seat → List ℕ
holdings events seat = flat_map (λ company. shares_column events company (OfSeat seat)) companies

-- a player's line
unfoldable pub player_line : List ℕ → Game → Seat → List ℕ
player_line file game seat = codes "PLAYER " ++ left_aligned 8 (name_of file seat) ++ cash_column game (party_at seat)
    ++ counted_column game.events seat ++ holdings game.events seat ++ codes_owned game.events seat ++ 10 ∷ []

-- the name of a company's president
abbrev pub president_name : List ℕ → Option Seat → List ℕ
president_name file None = []
president_name file (Some seat) = name_of file seat

-- a company's cash, the price of its square, its shares in the initial offering and the bank pool,
-- and the tokens that it has placed
unfoldable pub company_figures : Game → Company → Square → List ℕ
company_figures game company square = cash_column game (party.Holder (holder.Company company))
    ++ right_aligned 4 (decimal (price_of square))
    ++ shares_column game.events company InitialOffering ++ shares_column game.events company BankPool
    ++ right_aligned 2 (decimal (tokens_placed game.events company))

-- a kind after a space, this many times
abbrev pub codes_of_kind : Kind → ℕ → List ℕ
codes_of_kind kind zero = []
codes_of_kind kind (suc n) = codes_of_kind kind n ++ 32 ∷ code_of_kind kind

-- the trains of a kind that a company has, each as its kind after a space
abbrev pub codes_of_trains : List Event → Company → Kind → List ℕ
codes_of_trains events company kind = codes_of_kind kind (at_least_zero (trains_held events (Some company) kind))

-- the trains of a company, least first
unfoldable pub trains_text : List Event → Company → List ℕ
trains_text events company = flat_map (λ kind. codes_of_trains events company kind) kinds

-- the line of a company on this square
unfoldable pub company_line : List ℕ → Game → Company → Square → List ℕ
company_line file game company square =
    codes "COMPANY " ++ left_aligned 4 (code_of_company company) ++ company_figures game company square
    ++ 32 ∷ president_name file (president_of game.events company) ++ trains_text game.events company ++ 10 ∷ []

-- the line of a company on a square, if it is on one
abbrev pub line_on_square : List ℕ → Game → Company → Option Square → List ℕ
line_on_square file game company None = []
line_on_square file game company (Some square) = company_line file game company square

-- the line of a company, if it is started: if its token has a square
abbrev pub started_line : List ℕ → Game → Company → List ℕ
started_line file game company = line_on_square file game company (square_of game.events company)

-- the lines of the started companies, in roster order
unfoldable pub company_lines : List ℕ → Game → List ℕ
company_lines file game = flat_map (λ company. started_line file game company) companies

-- the bank's line
unfoldable pub bank_line : Game → List ℕ
bank_line game = codes "BANK " ++ cash_column game party.Bank ++ 10 ∷ []

-- the players' lines
unfoldable pub player_lines : List ℕ → Game → List ℕ
player_lines file game = flat_map (λ seat. player_line file game (record { 0 = seat })) (range_with_len 0 game.seats)

-- the statement of a game
abbrev pub statement : List ℕ → Game → List ℕ
statement file game = player_lines file game ++ company_lines file game ++ bank_line game
