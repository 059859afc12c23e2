-- The rows of a stock round. Of each company, in roster order, a seat is told what becomes of the
-- order to start it at each of the six par values, to buy a share of the initial offering and one of
-- the pool, and to sell from 1 share to one more than the seat has. Last comes the exchange of MH.
-- Each is judged by the rules of a stock round as the next line of the seat's turn, in which it has
-- bought of one company or of none. A sale brings its price, and the exchange costs nothing.
use Rattle.std.specs.Prelude.{ℕ, ◌==◌, ◌++◌, ◌||◌, Bool, List, [], ◌∷◌, Option, pos, ◌+ℤ◌}
use Rattle.std.specs.List.{flat_map}
use Rattle.std.specs.Int.Signed.{le_z}
use Rattle.certs.specs.Purchase.{cost_of}
use Rattle.certs.specs.declared.share_deal.Purchase.TheVariants as purchase
use Rattle.events.specs.declared.event.Event.{Event}
use Rattle.events.specs.declared.event.Shareholder.TheVariants.{Seat as OfSeat}
use Rattle.moves.specs.Deals.{brought_by, sources}
use Rattle.moves.specs.Rows.{answer_of, only_if}
use Rattle.moves.specs.declared.row.Answer.{Answer}
use Rattle.moves.specs.declared.row.Row.{Row}
use Rattle.order_grammar.specs.declared.order.Order.{Order}
use Rattle.order_grammar.specs.declared.order.Order.TheVariants.{Play}
use Rattle.order_grammar.specs.declared.play.PlayOrder.{PlayOrder}
use Rattle.order_grammar.specs.declared.play.PlayOrder.TheVariants.{Par, BuyShare, Sell, ExchangeMohawk}
use Rattle.stock_round.specs.Orders.{stock_refusal}
use Rattle.stock_round.specs.Sell.{sale_of}
use Rattle.tables.specs.Chart.{par_values}
use Rattle.tables.specs.Roster.{companies}
use Rattle.tables.specs.declared.roster.Company.{Company}
use Rattle.tables.specs.declared.seat.Seat.{Seat}
use Rattle.totals.specs.LookBack.{Game}
use Rattle.totals.specs.Shares.{shares_of}

-- to start a company, at each par value
abbrev pub starts_of : Company → List PlayOrder
starts_of company = flat_map (λ price. Par company price ∷ []) par_values

-- to buy a share of it, from each place
abbrev pub shares_from : Company → List PlayOrder
shares_from company = flat_map (λ from. BuyShare company from ∷ []) sources

-- the numbers of shares of which a sale may be shown: a company has ten, and one more is refused
abbrev pub numbers : List ℕ
numbers = 1 ∷ 2 ∷ 3 ∷ 4 ∷ 5 ∷ 6 ∷ 7 ∷ 8 ∷ 9 ∷ 10 ∷ 11 ∷ []

-- a sale of this many is shown: of one, and of up to one more than the seat has
abbrev pub is_number_asked : List Event → Seat → Company → ℕ → Bool
is_number_asked events seat company shares =
    shares == 1 || le_z (pos shares) (shares_of events company (OfSeat seat) +ℤ pos 1)

-- the order to sell this many, if it is shown
abbrev pub orders_of_sale : List Event → Seat → Company → ℕ → List PlayOrder
orders_of_sale events seat company shares =
    only_if (is_number_asked events seat company shares) (Sell company shares ∷ [])

-- to sell shares of a company
abbrev pub sales_of : List Event → Seat → Company → List PlayOrder
sales_of events seat company = flat_map (orders_of_sale events seat company) numbers

-- to buy from it
abbrev pub purchases_of : Company → List PlayOrder
purchases_of company = starts_of company ++ shares_from company

-- the orders of a company
abbrev pub orders_of : List Event → Seat → Company → List PlayOrder
orders_of events seat company = purchases_of company ++ sales_of events seat company

-- and of all companies
unfoldable pub orders_of_companies : List Event → Seat → List PlayOrder
orders_of_companies events seat = flat_map (orders_of events seat) companies

-- those of all companies, and the exchange
abbrev pub stock_orders : List Event → Seat → List PlayOrder
stock_orders events seat = orders_of_companies events seat ++ ExchangeMohawk ∷ []

-- what an order costs, or what a sale brings
abbrev pub stock_cost : List Event → Order → ℕ
stock_cost events (Play (Par company price)) = cost_of events (purchase.Par company price)
stock_cost events (Play (BuyShare company from)) = cost_of events (purchase.Share company from)
stock_cost events (Play (Sell company shares)) = brought_by events (sale_of company shares)
stock_cost events other = 0

-- what becomes of an order as the next line of a seat's turn, in which it has bought of this company or
-- of none
abbrev pub stock_answer : Game → Seat → Option Company → Order → Answer
stock_answer game seat bought order =
    answer_of (pos (stock_cost game.events order)) (stock_refusal game seat bought order)

-- the row of an order
abbrev pub stock_row : Game → Seat → Option Company → PlayOrder → Row
stock_row game seat bought order = record { order = order; answer = stock_answer game seat bought (Play order) }
