-- The figures that a rule compares: they show why it refused an order. Each is what the list of
-- events says before the order.
use Rattle.std.specs.Prelude.{ℕ, ◌*◌, List, [], ◌∷◌, Option, Some, None, ℤ, pos, if◌then◌else◌, option_map, unwrap_or}
use Rattle.certs.specs.Counted.{counted_of}
use Rattle.certs.specs.Purchase.{market_price_of, share_price_of}
use Rattle.desk_why.specs.declared.figures.Figures.{Figures}
use Rattle.desk_why.specs.declared.figures.Figures.TheVariants as figures
use Rattle.events.specs.Event.{party_at}
use Rattle.events.specs.declared.event.Event.{Event}
use Rattle.events.specs.declared.event.Shareholder.TheVariants.{Seat as OfSeat, InitialOffering, BankPool}
use Rattle.events.specs.declared.ruling.OpeningRule.{OpeningRule}
use Rattle.events.specs.declared.ruling.OpeningRule.TheVariants as opening
use Rattle.events.specs.declared.ruling.PrivateRule.TheVariants.{TooEarly, WrongPrice}
use Rattle.events.specs.declared.ruling.Refusal.{Refusal}
use Rattle.events.specs.declared.ruling.Refusal.TheVariants as refusal
use Rattle.events.specs.declared.ruling.StockRule.{StockRule}
use Rattle.events.specs.declared.ruling.StockRule.TheVariants as stock
use Rattle.events.specs.declared.ruling.TrainRule.TheVariants.{NotOnSale, TrainLimit}
use Rattle.map_tables.specs.declared.rules.LayRule.TheVariants.{ColourClosed}
use Rattle.map_tables.specs.declared.rules.RunRule.TheVariants.{WrongNumber}
use Rattle.order_grammar.specs.declared.condition.Condition.{Condition}
use Rattle.order_grammar.specs.declared.condition.Condition.TheVariants as condition
use Rattle.order_grammar.specs.declared.order.Order.{Order}
use Rattle.order_grammar.specs.declared.order.Order.TheVariants as order
use Rattle.order_grammar.specs.declared.play.PlayOrder.TheVariants as play
use Rattle.map_tables.specs.Print.{print_of}
use Rattle.purchases.specs.Train.{purchase_of, sells, train_purchase_cost}
use Rattle.tables.specs.Roster.{certificate_limit_of, face_of, token_price_of}
use Rattle.tables.specs.Train.{kinds, limit_of, stops_of}
use Rattle.tables.specs.declared.rolling_stock.Kind.{Kind}
use Rattle.tables.specs.declared.roster.Company.{Company}
use Rattle.tables.specs.declared.roster.Private.{Private}
use Rattle.tables.specs.declared.seat.Seat.{Seat}
use Rattle.totals.specs.Bids.{bids_elsewhere_of, free_cash_of, greatest_bid_of}
use Rattle.totals.specs.LookBack.{cash_of, cheapest_of, owner_of, Game}
use Rattle.totals.specs.Shares.{is_started, shares_of}
use Rattle.totals.specs.Operating.{tokens_placed}
use Rattle.totals.specs.Trains.{phase_of}

-- of a rule of an opening, for an order of a seat about a private: its owner if it is sold, the
-- cheapest private, the face value and the highest bid, or the cash and what is bid elsewhere
abbrev pub opening_figures : Game → Seat → Private → OpeningRule → Option Figures
opening_figures game seat private opening.Sold = option_map figures.Owner (owner_of game.events private)
opening_figures game seat private opening.NotCheapest = option_map figures.Cheapest (cheapest_of game.events)
opening_figures game seat private opening.BidForCheapest = option_map figures.Cheapest (cheapest_of game.events)
opening_figures game seat private opening.BidTooLow =
    Some (figures.Bids (face_of private) (unwrap_or (greatest_bid_of game.events private) 0))
opening_figures game seat private opening.CashTooSmall =
    Some (figures.Tied (cash_of game.seats game.events (party_at seat)) (pos (bids_elsewhere_of game.events seat private)))
opening_figures game seat private opening.NotOfOpening = None
opening_figures game seat private opening.TurnUsed = None

-- the shares of a company in the initial offering, and in the bank pool
abbrev pub offered : List Event → Company → Figures
offered events company =
    figures.Offered (shares_of events company InitialOffering) (shares_of events company BankPool)

-- what an order costs that starts a company or buys a share
abbrev pub cost_of_order : List Event → Order → ℤ
cost_of_order events (order.Play (play.Par company price)) = pos (2 * price)
cost_of_order events (order.Play (play.BuyShare company from)) = pos (share_price_of events company from)
cost_of_order events other = pos 0

-- of a rule of a stock round, for an order of a seat about a company: the shares that the seat has,
-- those in the initial offering and in the pool, whether the company is started, what the order
-- costs and the cash that no bid ties, or the certificates that count and their limit
abbrev pub stock_figures : Game → Seat → Order → Company → StockRule → Option Figures
stock_figures game seat its company stock.NotHeld = Some (figures.Held (shares_of game.events company (OfSeat seat)))
stock_figures game seat its company stock.OverSixShares =
    Some (figures.Held (shares_of game.events company (OfSeat seat)))
stock_figures game seat its company stock.PoolFull = Some (offered game.events company)
stock_figures game seat its company stock.NoneThere = Some (offered game.events company)
stock_figures game seat its company stock.WrongStart =
    Some (figures.Started company (is_started game.events company))
stock_figures game seat its company stock.CashTooSmall =
    Some (figures.Cost (cost_of_order game.events its) (free_cash_of game.seats game.events seat))
stock_figures game seat its company stock.CertificateLimit =
    Some (figures.Certificates (counted_of game.events seat) (certificate_limit_of game.seats))
stock_figures game seat its company other = None

-- the first of some kinds of trains that the bank sells
abbrev pub first_sold : List Event → List Kind → Option Kind
first_sold events [] = None
first_sold events (kind ∷ others) = if sells events kind then Some kind else first_sold events others

-- the most stops of the train of a run, if the order is one and they have a limit
abbrev pub stops_figures : Order → Option Figures
stops_figures (order.Run kind run) = option_map figures.Stops (stops_of kind)
stops_figures other = None

-- the face value of the private that an order buys, if it buys one of its owner
abbrev pub face_figures : Order → Option Figures
face_figures (order.Play (play.BuyOwnedPrivate private price)) = Some (figures.Face (face_of private))
face_figures other = None

-- of a rule of an operating round: the phase, the most stops of the train, the train that is on
-- sale, how many trains a company may have, or the face value of the private
abbrev pub operating_figures : List Event → Order → Refusal → Option Figures
operating_figures events its (refusal.Lay ColourClosed) = Some (figures.Phase (phase_of events))
operating_figures events its (refusal.Private TooEarly) = Some (figures.Phase (phase_of events))
operating_figures events its (refusal.Run WrongNumber) = stops_figures its
operating_figures events its (refusal.Train NotOnSale) = option_map figures.OnSale (first_sold events kinds)
operating_figures events its (refusal.Train TrainLimit) = Some (figures.Trains (limit_of (phase_of events)))
operating_figures events its (refusal.Private WrongPrice) = face_figures its
operating_figures events its other = None

-- what an order of a company's turn costs, if it is one that costs money: a lay the terrain of its
-- hex, a token by how many the company has placed
abbrev pub cost_in_turn : List Event → Company → Order → Option ℕ
cost_in_turn events company (order.Play (play.Lay lay)) = Some ((print_of lay.hex).cost)
cost_in_turn events company (order.Play (play.Token place)) = Some (token_price_of (tokens_placed events company))
cost_in_turn events company (order.Play (play.BuyTrain kind from)) = Some (train_purchase_cost (purchase_of kind from))
cost_in_turn events company (order.Play (play.BuyOwnedPrivate private price)) = Some price
cost_in_turn events company other = None

-- of a condition: the price of the company, or the phase
abbrev pub condition_figures : List Event → Condition → Option Figures
condition_figures events (condition.Price company price) =
    Some (figures.Price company (market_price_of events company))
condition_figures events (condition.Phase kind) = Some (figures.Phase (phase_of events))
condition_figures events (condition.Floated company) = None

-- the private that an order of an opening is about, if it is about one
abbrev pub private_in : Order → Option Private
private_in (order.Play (play.BuyPrivate private)) = Some private
private_in (order.Play (play.Bid private amount)) = Some private
private_in (order.Play (play.Limit private amount)) = Some private
private_in other = None

-- the company that an order of a stock round, or a RAISE, is about, if it is about one
abbrev pub company_in : Order → Option Company
company_in (order.Play (play.Par company price)) = Some company
company_in (order.Play (play.BuyShare company from)) = Some company
company_in (order.Play (play.Sell company shares)) = Some company
company_in (order.Play (play.Raise company shares)) = Some company
company_in other = None

-- of a rule of an opening, if the order is about a private
abbrev pub opening_figures_if : Game → Seat → Option Private → OpeningRule → Option Figures
opening_figures_if game seat None rule = None
opening_figures_if game seat (Some private) rule = opening_figures game seat private rule

-- of a rule of a stock round, if the order is about a company
abbrev pub stock_figures_if : Game → Seat → Order → Option Company → StockRule → Option Figures
stock_figures_if game seat its None rule = None
stock_figures_if game seat its (Some company) rule = stock_figures game seat its company rule

-- of a condition, if the order has one
abbrev pub condition_figures_if : List Event → Option Condition → Option Figures
condition_figures_if events None = None
condition_figures_if events (Some its) = condition_figures events its

-- of the rule by which an order of a seat, with its condition, was refused
abbrev pub figures_of : Game → Seat → Option Condition → Order → Refusal → Option Figures
figures_of game seat its_condition its (refusal.Opening rule) =
    opening_figures_if game seat (private_in its) rule
figures_of game seat its_condition its (refusal.Stock rule) =
    stock_figures_if game seat its (company_in its) rule
figures_of game seat its_condition its refusal.Condition = condition_figures_if game.events its_condition
figures_of game seat its_condition its other = operating_figures game.events its other
