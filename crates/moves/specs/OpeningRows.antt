-- The rows of an opening. Of each private, in roster order, a seat is told what becomes of the order
-- to buy it, of the least bid on it, and of a bid that is a dollar less. Each is judged by the rules
-- of an opening as the next line of the seat's turn. A purchase costs the price of the private, a bid
-- its sum.
use Rattle.std.specs.Prelude.{ℕ, ◌-◌, Bool, List, [], ◌∷◌, pos}
use Rattle.std.specs.List.{flat_map}
use Rattle.events.specs.declared.event.Event.{Event}
use Rattle.moves.specs.Bids.{least_bid_of}
use Rattle.moves.specs.Rows.{answer_of}
use Rattle.moves.specs.declared.row.Answer.{Answer}
use Rattle.moves.specs.declared.row.Row.{Row}
use Rattle.order_grammar.specs.declared.order.Order.{Order}
use Rattle.order_grammar.specs.declared.order.Order.TheVariants.{Play}
use Rattle.order_grammar.specs.declared.play.PlayOrder.{PlayOrder}
use Rattle.order_grammar.specs.declared.play.PlayOrder.TheVariants.{Bid, BuyPrivate}
use Rattle.privates.specs.Bank.{price_of_private}
use Rattle.privates.specs.Turn.{opening_refusal}
use Rattle.tables.specs.Roster.{privates}
use Rattle.tables.specs.declared.roster.Private.{Private}
use Rattle.totals.specs.LookBack.{Game}
use Rattle.tables.specs.declared.seat.Seat.{Seat}

-- the orders of a private: to buy it, to make the least bid, and to bid a dollar less
abbrev pub orders_on : List Event → Private → List PlayOrder
orders_on events private =
    BuyPrivate private ∷ Bid private (least_bid_of events private) ∷ Bid private (least_bid_of events private - 1) ∷ []

-- and of all privates
abbrev pub opening_orders : List Event → List PlayOrder
opening_orders events = flat_map (orders_on events) privates

-- what an order costs: a private its price, a bid its sum
abbrev pub opening_cost : List Event → Order → ℕ
opening_cost events (Play (BuyPrivate private)) = price_of_private events private
opening_cost events (Play (Bid private amount)) = amount
opening_cost events other = 0

-- what becomes of an order as the next line of a seat's turn, in which it has bought or bid, or has not
abbrev pub opening_answer : Game → Seat → Bool → Order → Answer
opening_answer game seat used order =
    answer_of (pos (opening_cost game.events order)) (opening_refusal game.seats game.events seat used order)

-- the row of an order
abbrev pub opening_row : Game → Seat → Bool → PlayOrder → Row
opening_row game seat used order =
    record { order = order; answer = opening_answer game seat used (Play order) }
