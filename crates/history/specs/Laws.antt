-- Laws of games: what keeps a list sound, and what a sound list says.
use Rattle.std.specs.Prelude.{◌≡◌, ◌≢◌, ◌≤◌, ◌<◌, ℕ, ◌+◌, List, [], ◌∷◌, ◌++◌, Option, Some, None, true, false}
use Rattle.std.specs.Prelude.{if◌then◌else◌, is_some, length, ◌≤ℤ◌, pos, ◌-ℤ◌}
use Rattle.events.specs.Event.{IsQuiet, is_par_value, party_at, party_of_company, place_of_source, square_set}
use Rattle.events.specs.declared.event.Event.{Event}
use Rattle.events.specs.declared.event.Event.TheVariants.{Bids, Sold, Price, Revenue, Given, Par, President, Bought}
use Rattle.events.specs.declared.event.Event.TheVariants.{Sells, Exchanged, Floats, Moves, Home, Laid, Token, Withheld}
use Rattle.events.specs.declared.event.Event.TheVariants.{Runs, Dividend, Traded, Train, Phase, Rusted, Discarded}
use Rattle.events.specs.declared.event.Event.TheVariants.{Closed, PrivateBought, Forced, Aid, Bankrupt}
use Rattle.events.specs.declared.event.Holder.{Holder}
use Rattle.events.specs.declared.event.Holder.TheVariants as holder
use Rattle.events.specs.declared.event.Party.TheVariants as party
use Rattle.events.specs.declared.event.Shareholder.TheVariants.{InitialOffering, Seat as OfSeat}
use Rattle.events.specs.declared.event.TrainSeller.{TrainSeller}
use Rattle.totals.specs.LookBack.{Game, cash_of, cheapest_of, is_sold, owner_of, sv_price_of, with_event}
use Rattle.totals.specs.Bids.{bid_of, bids_elsewhere_of, free_cash_of}
use Rattle.history.specs.Money.{IsParty, cash_together, parties}
use Rattle.totals.specs.Shares.{arrival_of, president_of, shares_of, square_of, square_said}
use Rattle.history.specs.Sound.{IsSound, IsSvPrice, LiesFit, least_offered}
use Rattle.history.specs.Record.{broken_recorded}
use Rattle.totals.specs.Trains.{IsThere, trains_held}
use Rattle.map_tables.specs.declared.lay.Lay.{Lay}
use Rattle.map_tables.specs.declared.place.Place.{Place}
use Rattle.order_grammar.specs.declared.order.ShareSource.{ShareSource}
use Rattle.order_grammar.specs.declared.order.ShareSource.TheVariants as source
use Rattle.tables.specs.Roster.{face_of}
use Rattle.tables.specs.declared.rolling_stock.Kind.{Kind}
use Rattle.tables.specs.declared.roster.Company.{Company}
use Rattle.tables.specs.declared.roster.Company.TheVariants.{Pennsylvania, NewYorkCentral}
use Rattle.tables.specs.declared.roster.Private.{Private}
use Rattle.tables.specs.declared.roster.Private.TheVariants.{SchuylkillValley, MohawkHudson, CamdenAmboy}
use Rattle.tables.specs.declared.seat.Seat.{Seat}
use Rattle.tables.specs.declared.squares.Square.{Square}

-- a game after the bank has paid a seat for shares of a company; perhaps that breaks the bank
abbrev pub block_sold : Game → Company → Seat → ℕ → ℕ → Game
block_sold game company seat shares price = broken_recorded (with_event game (Sells company seat shares price))

-- the bank, the seats at the table and the companies have 12,000 together in a sound list
abbrev pub SoundMoneyStays : Type 0
SoundMoneyStays =
    (game : Game) → IsSound game → cash_together game.seats game.events (parties game.seats) ≡ pos 12000

-- a private's owner is a seat at the table, or a company
abbrev pub OwnersAreParties : Type 0
OwnersAreParties =
    (game : Game) (private : Private) (owner : Holder) →
    IsSound game → owner_of game.events private ≡ Some owner → IsParty game.seats (party.Holder owner)

-- a quiet event keeps a list sound
abbrev pub QuietKeepsSound : Type 0
QuietKeepsSound = (game : Game) (event : Event) → IsQuiet event → IsSound game → IsSound (with_event game event)

-- A bid of a seat at the table keeps a list sound on three conditions. It is at most 99,999, no
-- other seat has that bid on the private, and the seat has the sum free of its other bids.
abbrev pub BidKeepsSound : Type 0
BidKeepsSound =
    (game : Game) (private : Private) (seat : Seat) (amount : ℕ) →
    amount ≤ 99999 → seat.0 < game.seats → ((other : Seat) → bid_of game.events private other ≡ Some amount
    → other ≡ seat) → pos amount ≤ℤ (cash_of game.seats game.events (party_at seat) -ℤ pos
    (bids_elsewhere_of game.events seat private)) → IsSound game
    → IsSound (with_event game (Bids private seat amount))

-- a sale of an unsold private to a seat at the table keeps a list sound, if the seat has the price
-- free of its other bids
abbrev pub SaleKeepsSound : Type 0
SaleKeepsSound =
    (game : Game) (private : Private) (seat : Seat) (price : ℕ) →
    is_sold game.events private ≡ false → seat.0 < game.seats
    → pos price ≤ℤ (cash_of game.seats game.events (party_at seat) -ℤ pos
    (bids_elsewhere_of game.events seat private)) → IsSound game
    → IsSound (with_event game (Sold private seat price))

-- a revenue of the bank to the owner of a private keeps a list sound
abbrev pub RevenueKeepsSound : Type 0
RevenueKeepsSound =
    (game : Game) (private : Private) (owner : Holder) (amount : ℕ) →
    owner_of game.events private ≡ Some owner → IsSound game → IsSound (with_event game (Revenue private owner amount))

-- a price of SV keeps a list sound; it is 0 only once SV is sold
abbrev pub PriceKeepsSound : Type 0
PriceKeepsSound =
    (game : Game) (price : ℕ) →
    IsSvPrice price → (price ≡ 0 → is_sold game.events SchuylkillValley ≡ true) → IsSound game
    → IsSound (with_event game (Price price))

-- a fall of SV's price to 0 keeps a list sound, if SV is given away to a seat at the table
abbrev pub SvIsGivenAway : Type 0
SvIsGivenAway =
    (game : Game) (seat : Seat) →
    is_sold game.events SchuylkillValley ≡ false → seat.0 < game.seats → IsSound game
    → IsSound (with_event (with_event game (Price 0)) (Sold SchuylkillValley seat 0))

-- a gift to a seat at the table keeps a list sound if the initial offering has this many shares,
-- and enough are left of a company without a square
abbrev pub GiftKeepsSound : Type 0
GiftKeepsSound =
    (game : Game) (company : Company) (seat : Seat) (shares : ℕ) →
    seat.0 < game.seats → pos shares ≤ℤ shares_of game.events company InitialOffering
    → (square_of game.events company ≡ None → pos (least_offered game.events company + shares) ≤ℤ shares_of
    game.events company InitialOffering) → IsSound game → IsSound (with_event game (Given company seat shares))

-- the sale of CA with its share of PRR keeps a list sound, if PRR has no square
abbrev pub CaIsSoldWithItsGift : Type 0
CaIsSoldWithItsGift =
    (game : Game) (seat : Seat) (price : ℕ) →
    is_sold game.events CamdenAmboy ≡ false → square_of game.events Pennsylvania ≡ None → seat.0 < game.seats
    → pos price ≤ℤ (cash_of game.seats game.events (party_at seat) -ℤ pos
    (bids_elsewhere_of game.events seat CamdenAmboy)) → IsSound game
    → IsSound (with_event (with_event game (Sold CamdenAmboy seat price)) (Given Pennsylvania seat 1))

-- the start of a company that has no square keeps a list sound: its par value, two shares for a
-- seat at the table, and that seat as its president
abbrev pub StartKeepsSound : Type 0
StartKeepsSound =
    (game : Game) (company : Company) (seat : Seat) (price : ℕ) →
    is_par_value price ≡ true → square_of game.events company ≡ None → seat.0 < game.seats → IsSound game
    → IsSound (with_event (with_event (with_event game (Par company price)) (Given company seat 2))
    (President company seat))

-- The start of a company that has no square by a purchase keeps a list sound. A seat at the table
-- buys two shares of the initial offering, with their price free of its bids, and becomes its
-- president.
abbrev pub StartByPurchaseKeepsSound : Type 0
StartByPurchaseKeepsSound =
    (game : Game) (company : Company) (seat : Seat) (price cost : ℕ) →
    is_par_value price ≡ true → square_of game.events company ≡ None → seat.0 < game.seats
    → pos cost ≤ℤ free_cash_of game.seats game.events seat → IsSound game
    → IsSound (with_event (with_event (with_event game (Par company price))
    (Bought company seat 2 source.InitialOffering cost)) (President company seat))

-- A purchase of shares of a company that has a square keeps a list sound on two conditions.
-- There are this many, and a seat at the table has their price free of its bids.
abbrev pub PurchaseKeepsSound : Type 0
PurchaseKeepsSound =
    (game : Game) (company : Company) (seat : Seat) (shares : ℕ) (from : ShareSource) (price : ℕ) (square : Square) →
    square_of game.events company ≡ Some square → seat.0 < game.seats
    → pos shares ≤ℤ shares_of game.events company (place_of_source from)
    → pos price ≤ℤ free_cash_of game.seats game.events seat → IsSound game
    → IsSound (with_event game (Bought company seat shares from price))

-- MH's exchange keeps a list sound, if a seat at the table owns MH and there is a share of NYC
abbrev pub ExchangeKeepsSound : Type 0
ExchangeKeepsSound =
    (game : Game) (seat : Seat) (from : ShareSource) →
    owner_of game.events MohawkHudson ≡ Some (holder.Seat seat) → seat.0 < game.seats
    → pos 1 ≤ℤ shares_of game.events NewYorkCentral (place_of_source from) → IsSound game
    → IsSound (with_event game (Exchanged seat from))

-- a presidency that passes to a seat with no fewer shares than the president has keeps a list sound
abbrev pub SuccessionKeepsSound : Type 0
SuccessionKeepsSound =
    (game : Game) (company : Company) (old new : Seat) →
    president_of game.events company ≡ Some old → shares_of game.events company (OfSeat old) ≤ℤ shares_of game.events
    company (OfSeat new) → IsSound game → IsSound (with_event game (President company new))

-- a sale of shares that a seat at the table has keeps a list sound, if the president keeps two;
-- perhaps it breaks the bank
abbrev pub BlockKeepsSound : Type 0
BlockKeepsSound =
    (game : Game) (company : Company) (seat : Seat) (shares price : ℕ) →
    seat.0 < game.seats → pos shares ≤ℤ shares_of game.events company (OfSeat seat)
    → ((president : Seat) → president_of game.events company ≡ Some president
    → pos 2 ≤ℤ shares_of (block_sold game company seat shares price).events company (OfSeat president))
    → IsSound game → IsSound (block_sold game company seat shares price)

-- a sale of shares after which the presidency passes to a seat that then has two keeps a list sound
abbrev pub BlockWithSuccessionKeepsSound : Type 0
BlockWithSuccessionKeepsSound =
    (game : Game) (company : Company) (seat : Seat) (shares price : ℕ) (president : Seat) →
    seat.0 < game.seats → pos shares ≤ℤ shares_of game.events company (OfSeat seat)
    → pos 2 ≤ℤ shares_of (block_sold game company seat shares price).events company (OfSeat president)
    → IsSound game → IsSound (with_event (block_sold game company seat shares price) (President company president))

-- a company that floats keeps a list sound, if at most four shares are left in its initial offering
abbrev pub FloatKeepsSound : Type 0
FloatKeepsSound =
    (game : Game) (company : Company) (amount : ℕ) →
    shares_of game.events company InitialOffering ≤ℤ pos 4 → IsSound game
    → IsSound (with_event game (Floats company amount))

-- a token that moves from a square to another keeps a list sound
abbrev pub MoveKeepsSound : Type 0
MoveKeepsSound =
    (game : Game) (company : Company) (from to : Square) →
    square_of game.events company ≡ Some from → IsSound game → IsSound (with_event game (Moves company to))

-- a company's home token keeps a list sound, if the map state fits with it
abbrev pub HomeKeepsSound : Type 0
HomeKeepsSound =
    (game : Game) (company : Company) (place : Place) →
    LiesFit (game.events ++ Home company place ∷ []) → IsSound game → IsSound (with_event game (Home company place))

-- a token that a company can pay for keeps a list sound, if the map state fits with it
abbrev pub TokenKeepsSound : Type 0
TokenKeepsSound =
    (game : Game) (company : Company) (place : Place) (cost : ℕ) →
    pos cost ≤ℤ cash_of game.seats game.events (party_of_company company)
    → LiesFit (game.events ++ Token company place cost ∷ []) → IsSound game
    → IsSound (with_event game (Token company place cost))

-- a lay that a company can pay for keeps a list sound, if the map state fits with it
abbrev pub LayKeepsSound : Type 0
LayKeepsSound =
    (game : Game) (company : Company) (lay : Lay) (cost : ℕ) →
    pos cost ≤ℤ cash_of game.seats game.events (party_of_company company)
    → LiesFit (game.events ++ Laid company lay cost ∷ []) → IsSound game
    → IsSound (with_event game (Laid company lay cost))

-- a company that withholds what it earned keeps a list sound
abbrev pub WithholdingKeepsSound : Type 0
WithholdingKeepsSound =
    (game : Game) (company : Company) (amount : ℕ) → IsSound game → IsSound (with_event game (Withheld company amount))

-- a run keeps a list sound
abbrev pub RunKeepsSound : Type 0
RunKeepsSound =
    (game : Game) (company : Company) (revenue : ℕ) → IsSound game → IsSound (with_event game (Runs company revenue))

-- a dividend of the bank to a party of the game keeps a list sound
abbrev pub DividendKeepsSound : Type 0
DividendKeepsSound =
    (game : Game) (company : Company) (paid : Holder) (amount : ℕ) →
    IsParty game.seats (party.Holder paid) → IsSound game → IsSound (with_event game (Dividend company paid amount))

-- a train that is there keeps a list sound if a company that can pay for it buys it
abbrev pub TrainPurchaseKeepsSound : Type 0
TrainPurchaseKeepsSound =
    (game : Game) (company : Company) (kind : Kind) (from : TrainSeller) (price : ℕ) →
    IsThere game.events from kind → pos price ≤ℤ cash_of game.seats game.events (party_of_company company)
    → IsSound game → IsSound (with_event game (Train company kind from price))

-- a train that a company has keeps a list sound if it is traded in
abbrev pub TradeKeepsSound : Type 0
TradeKeepsSound =
    (game : Game) (company : Company) (kind : Kind) →
    pos 1 ≤ℤ trains_held game.events (Some company) kind → IsSound game
    → IsSound (with_event game (Traded company kind))

-- a train that a company discards keeps a list sound
abbrev pub DiscardKeepsSound : Type 0
DiscardKeepsSound =
    (game : Game) (company : Company) (kind : Kind) →
    pos 1 ≤ℤ trains_held game.events (Some company) kind → IsSound game
    → IsSound (with_event game (Discarded company kind))

-- a train of a company or the pool that rusts keeps a list sound
abbrev pub RustingKeepsSound : Type 0
RustingKeepsSound =
    (game : Game) (owner : Option Company) (kind : Kind) →
    pos 1 ≤ℤ trains_held game.events owner kind → IsSound game → IsSound (with_event game (Rusted owner kind))

-- a phase that begins keeps a list sound
abbrev pub PhaseKeepsSound : Type 0
PhaseKeepsSound = (game : Game) (kind : Kind) → IsSound game → IsSound (with_event game (Phase kind))

-- a private that closes keeps a list sound
abbrev pub ClosingKeepsSound : Type 0
ClosingKeepsSound = (game : Game) (private : Private) → IsSound game → IsSound (with_event game (Closed private))

-- a private that a company buys from the seat that owns it keeps a list sound, if the company can
-- pay for it
abbrev pub PrivateKeepsSound : Type 0
PrivateKeepsSound =
    (game : Game) (private : Private) (company : Company) (seller : Seat) (price : ℕ) →
    owner_of game.events private ≡ Some (holder.Seat seller)
    → pos price ≤ℤ cash_of game.seats game.events (party_of_company company) →
    IsSound game → IsSound (with_event game (PrivateBought private company seller price))

-- a purchase that is forced, and a president that is bankrupt, keep a list sound
abbrev pub ForcingKeepsSound : Type 0
ForcingKeepsSound = (game : Game) (company : Company) → IsSound game → IsSound (with_event game (Forced company))

abbrev pub BankruptcyKeepsSound : Type 0
BankruptcyKeepsSound = (game : Game) (seat : Seat) → IsSound game → IsSound (with_event game (Bankrupt seat))

-- what a seat at the table pays a company keeps a list sound, if the seat has it free of its bids
abbrev pub AidKeepsSound : Type 0
AidKeepsSound =
    (game : Game) (seat : Seat) (company : Company) (amount : ℕ) →
    seat.0 < game.seats → pos amount ≤ℤ free_cash_of game.seats game.events seat → IsSound game
    → IsSound (with_event game (Aid seat company amount))

-- two companies with squares have not come there by the same event
abbrev pub ArrivalsDiffer : Type 0
ArrivalsDiffer =
    (events : List Event) (a b : Company) (at there : Square) →
    square_of events a ≡ Some at → square_of events b ≡ Some there → a ≢ b → arrival_of events a ≢ arrival_of events b

-- a company has reached its square by the event at the end, if that sets it, and otherwise by the
-- one by which it had before
abbrev pub ArrivalIsLast : Type 0
ArrivalIsLast =
    (events : List Event) (event : Event) (company : Company) →
    arrival_of (events ++ event ∷ []) company ≡ (if is_some (square_said company (square_set event)) then length
    events else arrival_of events company)

-- these prices are the bank's: SV costs the price that was set last, another private its face value
pub record AreAsked (game : Game) (price : Private → ℕ) : Type 0 where
  pub of_sv : price SchuylkillValley ≡ sv_price_of game.events
  pub of_others : (private : Private) → private ≢ SchuylkillValley → price private ≡ face_of private

-- the first private in roster order that is unsold costs no more than any other that is unsold
abbrev pub FirstIsCheapest : Type 0
FirstIsCheapest =
    (game : Game) (price : Private → ℕ) (first other : Private) →
    IsSound game → AreAsked game price → cheapest_of game.events ≡ Some first → is_sold game.events other ≡ false
    → price first ≤ price other
