-- The price of a row that is obeyed is the money that moves by its order. A purchase takes it from the buyer's cash, and a
-- sale of shares adds it to the seller's. A private bought in an opening is paid before the bids on the next one are
-- settled, which may cost the same player more. A bid moves no money, and its sum is the bid that then stands.
use Rattle.std.specs.Prelude.{◌≡◌, ℕ, Bool, true, false, List, Some, ℤ, pos, ◌+ℤ◌, ◌-ℤ◌, ⊤}
use Rattle.events.specs.Event.{party_at, party_of_company}
use Rattle.events.specs.declared.event.Event.{Event}
use Rattle.forced_purchase.specs.declared.operator.Operator.{Operator}
use Rattle.moves.specs.CompanyRows.{private_answer, train_answer}
use Rattle.moves.specs.OpeningRows.{opening_answer}
use Rattle.moves.specs.RowLaws.{Orders}
use Rattle.moves.specs.StockRows.{stock_answer}
use Rattle.moves.specs.declared.row.Answer.TheVariants.{Obeyed}
use Rattle.operating.specs.CompanyOrders.{OrderLeads}
use Rattle.operating.specs.Progress.{is_unpaid}
use Rattle.operating.specs.TurnState.{TurnState}
use Rattle.order_grammar.specs.declared.order.Order.{Order}
use Rattle.order_grammar.specs.declared.order.Order.TheVariants.{Play}
use Rattle.order_grammar.specs.declared.order.TrainSource.{TrainSource}
use Rattle.order_grammar.specs.declared.play.PlayOrder.TheVariants.{Bid, BuyOwnedPrivate, BuyPrivate, BuyTrain, Sell}
use Rattle.privates.specs.Sale.{settled}
use Rattle.privates.specs.Turn.{after_opening_line}
use Rattle.sheets.specs.Part.{Numbered}
use Rattle.stock_round.specs.Turn.{after_stock_line}
use Rattle.stock_round.specs.declared.deals.ShareDeals.{ShareDeals}
use Rattle.tables.specs.declared.rolling_stock.Kind.{Kind}
use Rattle.tables.specs.declared.roster.Company.{Company}
use Rattle.tables.specs.declared.roster.Private.{Private}
use Rattle.tables.specs.declared.seat.Seat.{Seat}
use Rattle.totals.specs.Bids.{bid_of}
use Rattle.totals.specs.LookBack.{Game, cash_of}
use Rattle.turns.specs.RoundOfTurns.{in_turn}
use Rattle.turns.specs.Ruling.{has_place_in_turn}

-- what is left of a seat's cash after an order of a stock round of this price: a sale adds it, and any other takes it
abbrev pub left_after : Order → ℤ → ℤ → ℤ
left_after (Play (Sell company shares)) price cash = cash +ℤ price
left_after other price cash = cash -ℤ price

-- the price of a row of a stock round moves as its line is obeyed
abbrev pub StockPricesMove : Type 0
StockPricesMove =
    (game : Game) (seat : Seat) (deals : ShareDeals) (line : Numbered) (order : Order) (price : ℤ) →
    has_place_in_turn order ≡ true → Orders game.events line order
    → stock_answer game seat deals.bought order ≡ Obeyed price
    → cash_of game.seats (after_stock_line game.seats seat (in_turn game.events deals) line).events (party_at seat)
    ≡ left_after order price (cash_of game.seats game.events (party_at seat))

-- a private is paid for at this price, and the bids on the next are settled
pub record IsPaidFor (seats : ℕ) (seat : Seat) (price : ℤ) (old new : List Event) : Type 0 where
  pub paid : List Event
  pub pays : cash_of seats paid (party_at seat) ≡ cash_of seats old (party_at seat) -ℤ price
  pub settles : new ≡ settled seats paid

-- a bid of this much stands, and no money has moved
pub record IsBid (seats : ℕ) (seat : Seat) (private : Private) (amount : ℕ) (price : ℤ) (old new : List Event) : Type
    0 where
  pub priced : price ≡ pos amount
  pub stands : bid_of new private seat ≡ Some amount
  pub pays : cash_of seats new (party_at seat) ≡ cash_of seats old (party_at seat)

-- what the price of a row of an opening is
abbrev pub MovesInOpening : ℕ → Seat → Order → ℤ → List Event → List Event → Type 0
MovesInOpening seats seat (Play (BuyPrivate private)) price old new = IsPaidFor seats seat price old new
MovesInOpening seats seat (Play (Bid private amount)) price old new = IsBid seats seat private amount price old new
MovesInOpening seats seat other price old new = ⊤

-- the price of a row of an opening moves as its line is obeyed, or stands as a bid
abbrev pub OpeningPricesMove : Type 0
OpeningPricesMove =
    (game : Game) (seat : Seat) (used : Bool) (line : Numbered) (order : Order) (price : ℤ) →
    has_place_in_turn order ≡ true → Orders game.events line order
    → opening_answer game seat used order ≡ Obeyed price
    → MovesInOpening game.seats seat order price game.events
    (after_opening_line game.seats seat (in_turn game.events used) line).events

-- the cash of a company
abbrev pub cash_of_company : Game → Company → ℤ
cash_of_company game company = cash_of game.seats game.events (party_of_company company)

-- the price of a row of a train moves as its line is obeyed, in a turn that is past its pay
abbrev pub TrainPricesMove : Type 0
TrainPricesMove =
    (by : Operator) (turn : TurnState) (line : Numbered) (kind : Kind) (from : TrainSource) (price : ℤ)
    (new : TurnState) → is_unpaid turn.progress ≡ false → train_answer turn.game by.company kind from ≡ Obeyed price
    → OrderLeads by turn line (Play (BuyTrain kind from)) new
    → cash_of_company new.game by.company ≡ cash_of_company turn.game by.company -ℤ price

-- so does that of a private
abbrev pub PrivatePricesMove : Type 0
PrivatePricesMove =
    (by : Operator) (turn : TurnState) (line : Numbered) (private : Private) (cost : ℕ) (price : ℤ) (new : TurnState)
    → private_answer turn.game by.company private cost ≡ Obeyed price
    → OrderLeads by turn line (Play (BuyOwnedPrivate private cost)) new
    → cash_of_company new.game by.company ≡ cash_of_company turn.game by.company -ℤ price
