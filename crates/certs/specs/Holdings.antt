-- The holdings of a game: the shares of each company at each place, its president as it was last
-- said, its square, and the owners of the privates. A transfer moves shares and nothing else.
use Rattle.std.specs.Prelude.{◌≡◌, [], Option, Some, None, ℤ, pos, ◌+ℤ◌, ◌-ℤ◌, slice_index_or}
use Rattle.certs.specs.ShareRow.{HasPlace, index_of}
use Rattle.certs.specs.declared.holdings.Holdings.{Holdings}
use Rattle.events.specs.declared.event.Shareholder.{Shareholder}
use Rattle.events.specs.declared.event.Transfer.{Transfer}
use Rattle.totals.specs.LookBack.{Game, owner_in, owner_of}
use Rattle.totals.specs.Shares.{brought_to, president_of, shares_of, square_of, taken_from}
use Rattle.tables.specs.Roster.{index_of_company}
use Rattle.tables.specs.declared.roster.Company.{Company}
use Rattle.tables.specs.declared.roster.Private.{Private}
use Rattle.tables.specs.declared.seat.Seat.{Seat}
use Rattle.tables.specs.declared.squares.Square.{Square}

-- the shares of a company at a place
abbrev pub shares_in : Holdings → Company → Shareholder → ℤ
shares_in holdings company place =
    slice_index_or (slice_index_or holdings.shares (index_of_company company) []) (index_of place) (pos 0)

-- the president of a company, as it was last said
abbrev pub president_in : Holdings → Company → Option Seat
president_in holdings company = slice_index_or holdings.presidents (index_of_company company) None

-- the square of a company
abbrev pub square_in : Holdings → Company → Option Square
square_in holdings company = slice_index_or holdings.squares (index_of_company company) None

-- the holdings are those of a game
pub record AreHoldingsOf (game : Game) (holdings : Holdings) : Type 0 where
  pub seats : holdings.seats ≡ game.seats
  pub shares : (company : Company) (place : Shareholder) → HasPlace place
      → shares_in holdings company place ≡ shares_of game.events company place
  pub presidents : (company : Company) → president_in holdings company ≡ president_of game.events company
  pub squares : (company : Company) → square_in holdings company ≡ square_of game.events company
  pub owners : (private : Private) → owner_in holdings.owners private ≡ owner_of game.events private

-- the holdings are those of a game as it stood
abbrev pub AreHoldingsAt : Game → Holdings → Type 0
AreHoldingsAt view holdings = AreHoldingsOf (record { seats = view.seats; events = view.events }) holdings

-- a transfer moves its shares, and nothing else
pub record MovesShares (old new : Holdings) (transfer : Transfer) : Type 0 where
  pub shares : (company : Company) (place : Shareholder) → HasPlace place
      → shares_in new company place ≡ (shares_in old company place +ℤ pos (brought_to company place (Some transfer)))
      -ℤ pos (taken_from company place (Some transfer))
  pub seats : new.seats ≡ old.seats
  pub presidents : new.presidents ≡ old.presidents
  pub squares : new.squares ≡ old.squares
  pub owners : new.owners ≡ old.owners
