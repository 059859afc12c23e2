-- An event has a few aspects. It may make a payment, move shares, and say who owns a private or
-- what is bid on it. Of a company it may set the par value, the square and the president, or say
-- that it floats or has operated. It may set the price of SV, lay a tile, place a token, move a
-- train, and begin a phase or a round. It may rule a line of a seat, obey an order, and say that
-- the bank is broken or that a president is bankrupt. Every fact about a game looks back over one
-- of them.
use Rattle.std.specs.Prelude.{◌≡◌, ℕ, Bool, true, false, Option, Some, None, if◌then◌else◌, is_some, option_and_then}
pub use Rattle.order_grammar.specs.declared.order.Order.{Order}
use Rattle.order_grammar.specs.declared.order.Order.TheVariants as order
use Rattle.order_grammar.specs.declared.order.ShareSource.{ShareSource}
use Rattle.order_grammar.specs.declared.order.ShareSource.TheVariants as source
use Rattle.order_grammar.specs.declared.play.PlayOrder.TheVariants as play_order
use Rattle.events.specs.declared.event.Bidding.{Bidding}
use Rattle.events.specs.declared.event.Bidding.TheVariants.{Made, Ended}
use Rattle.events.specs.declared.event.Event.{Event}
use Rattle.events.specs.declared.event.Event.TheVariants.{Round, Ruled, Bids, Sold, Price, Revenue, Given, Par}
use Rattle.events.specs.declared.event.Event.TheVariants.{President, Bought, Sells, Exchanged, Floats, Moves, Home}
use Rattle.events.specs.declared.event.Event.TheVariants.{Laid, Token, Withheld, Runs, Dividend, Traded, Train, Phase}
use Rattle.events.specs.declared.event.Event.TheVariants.{Rusted, Discarded, Closed, PrivateBought, Aid, Bankrupt}
use Rattle.events.specs.declared.event.Event.TheVariants.{Broken}
use Rattle.events.specs.declared.event.Holder.TheVariants as holder
use Rattle.events.specs.declared.event.Office.{Office}
use Rattle.events.specs.declared.event.Ownership.{Ownership}
use Rattle.events.specs.declared.event.ParValue.{ParValue}
use Rattle.events.specs.declared.event.Party.{Party}
use Rattle.events.specs.declared.event.Party.TheVariants as party
use Rattle.events.specs.declared.event.Payment.{Payment}
use Rattle.events.specs.declared.event.Placement.{Placement}
use Rattle.events.specs.declared.event.Shareholder.{Shareholder}
use Rattle.events.specs.declared.event.Shareholder.TheVariants as place
use Rattle.events.specs.declared.event.TrainMove.{TrainMove}
use Rattle.events.specs.declared.event.TrainPlace.{TrainPlace}
use Rattle.events.specs.declared.event.TrainPlace.TheVariants as train_place
use Rattle.events.specs.declared.event.TrainSeller.{TrainSeller}
use Rattle.events.specs.declared.event.TrainSeller.TheVariants as seller
use Rattle.events.specs.declared.event.Transfer.{Transfer}
use Rattle.events.specs.declared.ruling.Ruling.{Ruling}
use Rattle.events.specs.declared.ruling.Ruling.TheVariants.{Obeyed}
pub use Rattle.map_tables.specs.declared.lay.Lay.{Lay}
pub use Rattle.map_tables.specs.declared.place.Place.{Place}
use Rattle.tables.specs.Chart.{par_square_of}
use Rattle.tables.specs.declared.roster.Company.{Company}
use Rattle.tables.specs.declared.roster.Company.TheVariants.{NewYorkCentral}
use Rattle.tables.specs.declared.roster.Private.TheVariants.{MohawkHudson}
use Rattle.tables.specs.declared.rolling_stock.Kind.{Kind}
use Rattle.tables.specs.declared.round.Round.{Round as TheRound}
use Rattle.tables.specs.declared.seat.Seat.{Seat}
use Rattle.tables.specs.declared.squares.Square.{Square}

-- a seat, as one that pays or is paid
abbrev pub party_at : Seat → Party
party_at seat = party.Holder (holder.Seat seat)

-- a company, as one that pays or is paid
abbrev pub party_of_company : Company → Party
party_of_company company = party.Holder (holder.Company company)

-- where a share lies that is bought from there
abbrev pub place_of_source : ShareSource → Shareholder
place_of_source source.InitialOffering = place.InitialOffering
place_of_source source.BankPool = place.BankPool

-- where a train lies that is bought from there
abbrev pub place_of_seller : TrainSeller → TrainPlace
place_of_seller seller.Bank = train_place.Bank
place_of_seller seller.BankPool = train_place.BankPool
place_of_seller (seller.Company company) = train_place.Company company

-- who is paid for a train that is bought there
abbrev pub party_of_seller : TrainSeller → Party
party_of_seller (seller.Company company) = party_of_company company
party_of_seller other = party.Bank

-- where the trains of a company lie, or those of the bank pool if there is no owner
abbrev pub train_owner_place : Option Company → TrainPlace
train_owner_place None = train_place.BankPool
train_owner_place (Some company) = train_place.Company company

-- the money that an event moves. A seat pays the bank for a private or for shares. A company pays
-- the bank for a lay or a token, whoever sells it a train, and a seat for its private. A seat pays
-- a company what that lacks for a train. The bank pays a revenue, a dividend, a seat for shares, a
-- company that floats, and one that withholds.
abbrev pub payment_of : Event → Option Payment
payment_of (Sold private seat price) = Some (record { from = party_at seat; to = party.Bank; amount = price })
payment_of (Revenue private owner sum) = Some (record { from = party.Bank; to = party.Holder owner; amount = sum })
payment_of (Bought company seat shares from sum) = Some (record { from = party_at seat; to = party.Bank; amount = sum })
payment_of (Sells company seat shares price) = Some (record { from = party.Bank; to = party_at seat; amount = price })
payment_of (Floats company amount) = Some (record { from = party.Bank; to = party_of_company company; amount = amount })
payment_of (Laid company lay cost) = Some (record { from = party_of_company company; to = party.Bank; amount = cost })
payment_of (Token company place sum) = Some (record { from = party_of_company company; to = party.Bank; amount = sum })
payment_of (Withheld company sum) = Some (record { from = party.Bank; to = party_of_company company; amount = sum })
payment_of (Dividend company holder sum) = Some (record { from = party.Bank; to = party.Holder holder; amount = sum })
payment_of (Train company kind from price) =
    Some (record { from = party_of_company company; to = party_of_seller from; amount = price })
payment_of (PrivateBought private company seller price) =
    Some (record { from = party_of_company company; to = party_at seller; amount = price })
payment_of (Aid seat company sum) = Some (record { from = party_at seat; to = party_of_company company; amount = sum })
payment_of other = None

-- the sum of money that an event names, or 0
abbrev pub sum_of : Event → ℕ
sum_of (Sold private seat price) = price
sum_of (Price price) = price
sum_of (Revenue private owner amount) = amount
sum_of (Bids private seat amount) = amount
sum_of (Par company price) = price
sum_of (Bought company seat shares from price) = price
sum_of (Sells company seat shares price) = price
sum_of (Floats company amount) = amount
sum_of (Laid company lay cost) = cost
sum_of (Token company place cost) = cost
sum_of (Withheld company amount) = amount
sum_of (Runs company revenue) = revenue
sum_of (Dividend company holder amount) = amount
sum_of (Train company kind from price) = price
sum_of (PrivateBought private company seller price) = price
sum_of (Aid seat company amount) = amount
sum_of other = 0

-- what an event says of a private: that this holder owns it from then on, or nobody
abbrev pub ownership_of : Event → Option Ownership
ownership_of (Sold private seat price) = Some (record { private = private; owner = Some (holder.Seat seat) })
ownership_of (Exchanged seat from) = Some (record { private = MohawkHudson; owner = None })
ownership_of (Closed private) = Some (record { private = private; owner = None })
ownership_of (PrivateBought private company seller price) =
    Some (record { private = private; owner = Some (holder.Company company) })
ownership_of other = None

-- what an event says of the bids on a private: a seat bids on it, or its sale ends them
abbrev pub bidding_of : Event → Option Bidding
bidding_of (Bids private seat amount) = Some (Made private (record { seat = seat; amount = amount }))
bidding_of (Sold private seat price) = Some (Ended private)
bidding_of other = None

-- the shares that an event moves: a gift is from the initial offering, a purchase from there or
-- from the bank pool, and a sale goes to the pool. MH goes for a share of NYC.
abbrev pub transfer_of : Event → Option Transfer
transfer_of (Given company seat shares) =
    Some (record { company = company; from = place.InitialOffering; to = place.Seat seat; shares = shares })
transfer_of (Bought company seat shares from price) =
    Some (record { company = company; from = place_of_source from; to = place.Seat seat; shares = shares })
transfer_of (Sells company seat shares price) =
    Some (record { company = company; from = place.Seat seat; to = place.BankPool; shares = shares })
transfer_of (Exchanged seat from) =
    Some (record { company = NewYorkCentral; from = place_of_source from; to = place.Seat seat; shares = 1 })
transfer_of other = None

-- the par value that an event sets
abbrev pub par_set : Event → Option ParValue
par_set (Par company price) = Some (record { company = company; price = price })
par_set other = None

-- a sum of money is one of the six par values
abbrev pub is_par_value : ℕ → Bool
is_par_value price = is_some (par_square_of price)

-- a company on a square
abbrev pub placement_on : Company → Option Square → Option Placement
placement_on company None = None
placement_on company (Some square) = Some (record { company = company; square = square })

-- the square that an event sets: that of a par value, or the one to which a token moves
abbrev pub square_set : Event → Option Placement
square_set (Par company price) = placement_on company (par_square_of price)
square_set (Moves company square) = Some (record { company = company; square = square })
square_set other = None

-- the presidency that an event sets
abbrev pub office_of : Event → Option Office
office_of (President company seat) = Some (record { company = company; president = seat })
office_of other = None

-- the company that floats by an event
abbrev pub floated_by : Event → Option Company
floated_by (Floats company amount) = Some company
floated_by other = None

-- the price of SV that an event sets
abbrev pub sv_price_set : Event → Option ℕ
sv_price_set (Price price) = Some price
sv_price_set other = None

-- the tile that an event lays
abbrev pub tile_laid : Event → Option Lay
tile_laid (Laid company lay cost) = Some lay
tile_laid other = None

-- the token that an event places: that of a company's home, or a further one
abbrev pub token_placed : Event → Option (Place × Company)
token_placed (Home company place) = Some (place, company)
token_placed (Token company place cost) = Some (place, company)
token_placed other = None

-- the company that has operated by an event: one of its trains has run, or it withholds what it
-- earned
abbrev pub operated_by : Event → Option Company
operated_by (Runs company revenue) = Some company
operated_by (Withheld company amount) = Some company
operated_by other = None

-- the train that an event moves: one that is bought goes to the company, one that is traded in or
-- discarded goes from it to the pool. One that rusts is removed from the game.
abbrev pub train_moved : Event → Option TrainMove
train_moved (Train company kind from price) =
    Some (record { kind = kind; from = place_of_seller from; to = train_place.Company company })
train_moved (Traded company kind) = Some (record
    { kind = kind; from = train_place.Company company; to = train_place.BankPool })
train_moved (Rusted owner kind) = Some (record
    { kind = kind; from = train_owner_place owner; to = train_place.OutOfPlay })
train_moved (Discarded company kind) = Some (record
    { kind = kind; from = train_place.Company company; to = train_place.BankPool })
train_moved other = None

-- the phase that an event begins
abbrev pub phase_set : Event → Option Kind
phase_set (Phase kind) = Some kind
phase_set other = None

-- the round that an event begins
abbrev pub round_begun_by : Event → Option TheRound
round_begun_by (Round round) = Some round
round_begun_by other = None

-- the seat of whose sheet an event rules a line
abbrev pub ruled_by : Event → Option Seat
ruled_by (Ruled seat line ruling) = Some seat
ruled_by other = None

-- the event says that the bank is broken
abbrev pub says_broken : Event → Bool
says_broken Broken = true
says_broken other = false

-- the event says that a president is bankrupt
abbrev pub says_bankrupt : Event → Bool
says_bankrupt (Bankrupt seat) = true
says_bankrupt other = false

-- an order that was obeyed, with the seat that gave it and the number of its line
pub record Obeyance : Type 0 where
  pub seat : Seat
  pub line : ℕ
  pub order : Order

-- the order that a ruling obeys, whatever its condition
abbrev pub order_obeyed : Ruling → Option Order
order_obeyed (Obeyed condition order) = Some order
order_obeyed other = None

-- what the order that is obeyed says
abbrev pub obeyed_says : {A : Type 0} → (Order → Option A) → Option Order → Option A
obeyed_says says None = None
obeyed_says says (Some order) = says order

-- the order that an event obeys, with its seat and its line
abbrev pub obeyed_of : Event → Option Obeyance
obeyed_of (Ruled seat line (Obeyed condition order)) = Some (record { seat = seat; line = line; order = order })
obeyed_of other = None

-- the order is by itself an act of a turn: it buys a private or bids on one, or sells shares. The
-- event shows a purchase of shares, since a standing order can set a par value too
abbrev pub is_act : Order → Bool
is_act (order.Play (play_order.BuyPrivate private)) = true
is_act (order.Play (play_order.Bid private amount)) = true
is_act (order.Play (play_order.Sell company shares)) = true
is_act other = false

-- the order that is obeyed is such an act, if one is obeyed
abbrev pub is_act_obeyed : Option Order → Bool
is_act_obeyed None = false
is_act_obeyed (Some order) = is_act order

-- a ruling obeys such an order
abbrev pub acts : Ruling → Bool
acts ruling = is_act_obeyed (order_obeyed ruling)

-- the seat that acted in its own turn by this event: it bought a private or bid on one, or bought
-- or sold shares of a company
abbrev pub actor_of : Event → Option Seat
actor_of (Bought company seat shares from price) = Some seat
actor_of other = option_and_then (λ obeyed. if is_act obeyed.order then Some obeyed.seat else None) (obeyed_of other)

-- an event says nothing of what parties have and own, of SV's price, or of the tiles and tokens on
-- the map
pub record IsQuiet (event : Event) : Type 0 where
  pub payment : payment_of event ≡ None
  pub ownership : ownership_of event ≡ None
  pub bidding : bidding_of event ≡ None
  pub transfer : transfer_of event ≡ None
  pub par : par_set event ≡ None
  pub square : square_set event ≡ None
  pub office : office_of event ≡ None
  pub float : floated_by event ≡ None
  pub sv_price : sv_price_set event ≡ None
  pub train : train_moved event ≡ None
  pub tile : tile_laid event ≡ None
  pub token : token_placed event ≡ None
