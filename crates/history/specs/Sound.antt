-- When a list of events is sound. Each fact is about a few aspects of events: an event without
-- those keeps it.
--
-- - No seat has less cash than its standing bids tie, and no company owes anything.
-- - Standing bids are of seats at the table. Those on a private differ, and none is more than 99,999.
-- - SV's price is 5, 10, 15 or 20, or 0 once SV is sold.
-- - Each company's shares are nowhere below 0, and ten in all. Of a company without a square at
--   least eight are in its initial offering, nine of PRR while CA is unsold and of NYC while MH is
--   open.
-- - A company that has a square or has floated has one of the six par values, and a president with
--   at least two shares.
-- - Every payment goes between the bank, seats at the table and companies.
-- - Nobody has a negative number of trains of a kind, and the bank has sold no more of them than
--   there are.
-- - The tiles and tokens that were laid fit on the map, with the home tokens that are still to
--   come.
use Rattle.std.specs.Prelude.{◌≡◌, ◌⊎◌, ℕ, ◌<◌, ◌≤◌, true, if◌then◌else◌, List, Some, None, pos, ◌≤ℤ◌}
use Rattle.events.specs.Event.{is_par_value}
use Rattle.events.specs.declared.event.Event.{Event}
use Rattle.events.specs.declared.event.Holder.TheVariants as holder
use Rattle.events.specs.declared.event.Party.TheVariants as party
use Rattle.events.specs.declared.event.Shareholder.{Shareholder}
use Rattle.events.specs.declared.event.Shareholder.TheVariants.{InitialOffering, Seat as OfSeat}
use Rattle.totals.specs.Bids.{bid_of, free_cash_of}
use Rattle.totals.specs.LookBack.{Game, cash_of, is_closed, is_sold, sv_price_of}
use Rattle.history.specs.Money.{AreWithin}
use Rattle.totals.specs.Operating.{lays_of, tokens_of}
use Rattle.totals.specs.Shares.{is_floated, par_of, president_of, shares_of, square_of, shares_in_all}
use Rattle.totals.specs.Trains.{TrainsAreHeld}
use Rattle.map_tables.specs.Fit.{AreFitWithHomes}
use Rattle.tables.specs.declared.roster.Company.{Company}
use Rattle.tables.specs.declared.roster.Company.TheVariants.{Pennsylvania, NewYorkCentral}
use Rattle.tables.specs.declared.roster.Private.{Private}
use Rattle.tables.specs.declared.roster.Private.TheVariants.{SchuylkillValley, MohawkHudson, CamdenAmboy}
use Rattle.tables.specs.declared.seat.Seat.{Seat}
use Rattle.tables.specs.declared.squares.Square.{Square}

-- no seat has less cash than its standing bids tie
abbrev pub SeatsAreSolvent : Game → Type 0
SeatsAreSolvent game = (seat : Seat) → pos 0 ≤ℤ free_cash_of game.seats game.events seat

-- no company owes anything
abbrev pub CompaniesAreSolvent : Game → Type 0
CompaniesAreSolvent game =
    (company : Company) → pos 0 ≤ℤ cash_of game.seats game.events (party.Holder (holder.Company company))

-- no two seats have the same bid on a private
abbrev pub BidsDiffer : List Event → Type 0
BidsDiffer events =
    (private : Private) (a b : Seat) (amount : ℕ) → bid_of events private a ≡ Some amount
    → bid_of events private b ≡ Some amount → a ≡ b

-- no bid is more than 99,999
abbrev pub BidsAreSmall : List Event → Type 0
BidsAreSmall events =
    (private : Private) (seat : Seat) (amount : ℕ) → bid_of events private seat ≡ Some amount → amount ≤ 99999

-- only seats at the table bid
abbrev pub BiddersAreSeated : ℕ → List Event → Type 0
BiddersAreSeated seats events =
    (private : Private) (seat : Seat) (amount : ℕ) → bid_of events private seat ≡ Some amount → seat.0 < seats

-- a price that SV may have
abbrev pub IsSvPrice : ℕ → Type 0
IsSvPrice price = (price ≡ 20) ⊎ (price ≡ 15) ⊎ (price ≡ 10) ⊎ (price ≡ 5) ⊎ (price ≡ 0)

-- SV is sold once its price is 0
abbrev pub IsGivenAway : List Event → Type 0
IsGivenAway events = sv_price_of events ≡ 0 → is_sold events SchuylkillValley ≡ true

-- no place has fewer than 0 shares of a company
abbrev pub SharesAreHeld : List Event → Type 0
SharesAreHeld events = (company : Company) (place : Shareholder) → pos 0 ≤ℤ shares_of events company place

-- each company has ten shares
abbrev pub AreTenInAll : Game → Type 0
AreTenInAll game = (company : Company) → shares_in_all game.seats game.events company ≡ pos 10

-- the shares that stay in the initial offering of a company without a square
abbrev pub least_offered : List Event → Company → ℕ
least_offered events Pennsylvania = if is_sold events CamdenAmboy then 8 else 9
least_offered events NewYorkCentral = if is_closed events MohawkHudson then 8 else 9
least_offered events other = 8

-- at least this many shares of a company without a square are in its initial offering
abbrev pub AreOffered : List Event → Type 0
AreOffered events =
    (company : Company) → square_of events company ≡ None
    → pos (least_offered events company) ≤ℤ shares_of events company InitialOffering

-- a company has one of the six par values, and a president with at least two shares
pub record IsLed (events : List Event) (company : Company) : Type 0 where
  pub par : ℕ
  pub has_par : par_of events company ≡ Some par
  pub is_par : is_par_value par ≡ true
  pub president : Seat
  pub has_president : president_of events company ≡ Some president
  pub holds_two : pos 2 ≤ℤ shares_of events company (OfSeat president)

-- each company with a square has one of the six par values, and a president with at least two
-- shares
abbrev pub AreLed : List Event → Type 0
AreLed events = (company : Company) (square : Square) → square_of events company ≡ Some square → IsLed events company

-- each company that has floated has one of the six par values, and a president with at least two
-- shares
abbrev pub FloatedAreLed : List Event → Type 0
FloatedAreLed events = (company : Company) → is_floated events company ≡ true → IsLed events company

-- the tiles and tokens on the map fit there, with the home tokens to come
unfoldable pub LiesFit : List Event → Type 0
LiesFit events = AreFitWithHomes (lays_of events) (tokens_of events)

pub record IsSound (game : Game) : Type 0 where
  pub solvent : SeatsAreSolvent game
  pub companies : CompaniesAreSolvent game
  pub bids_differ : BidsDiffer game.events
  pub bids_small : BidsAreSmall game.events
  pub seated : BiddersAreSeated game.seats game.events
  pub price : IsSvPrice (sv_price_of game.events)
  pub given : IsGivenAway game.events
  pub held : SharesAreHeld game.events
  pub ten : AreTenInAll game
  pub offered : AreOffered game.events
  pub led : AreLed game.events
  pub floated : FloatedAreLed game.events
  pub within : AreWithin game.seats game.events
  pub trains : TrainsAreHeld game.events
  pub fit : LiesFit game.events
