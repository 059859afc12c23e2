-- The orders of a turn of a stock round. A seat may set a company's par value and so buy its
-- president's certificate (PAR), buy a share (BUY), or sell shares (SELL). Or it may give up MH for a
-- share of NYC (EXCHANGE). Any other order breaks the first rule. What an order needs so that it can
-- be done is those of its rules that depend on what the game has, and not on what was done before in
-- the turn or the round. They are kept after the ruling as they were before it.
use Rattle.std.specs.Prelude.{Option, Some, None, option_map}
use Rattle.certs.specs.Purchase.{purchase_judgement}
use Rattle.certs.specs.Sale.{sale_judgement}
use Rattle.certs.specs.declared.share_deal.Purchase.TheVariants as purchase
use Rattle.events.specs.declared.ruling.Refusal.{Refusal}
use Rattle.events.specs.declared.ruling.Refusal.TheVariants.{Stock}
use Rattle.events.specs.declared.ruling.StockRule.{StockRule}
use Rattle.events.specs.declared.ruling.StockRule.TheVariants.{NotOfStock}
use Rattle.order_grammar.specs.declared.order.Order.{Order}
use Rattle.order_grammar.specs.declared.order.Order.TheVariants.{Play}
use Rattle.order_grammar.specs.declared.play.PlayOrder.TheVariants.{Par, BuyShare, Sell, ExchangeMohawk}
use Rattle.stock_round.specs.Buy.{MayBuy, after_purchase}
use Rattle.stock_round.specs.Exchange.{MayExchange, after_exchange, exchange_judgement}
use Rattle.stock_round.specs.Par.{MayStart, after_start}
use Rattle.stock_round.specs.Sell.{MaySell, after_sale, sale_of}
use Rattle.tables.specs.declared.roster.Company.{Company}
use Rattle.tables.specs.declared.seat.Seat.{Seat}
use Rattle.totals.specs.LookBack.{Game}

-- The first rule that an order breaks in a turn in which the seat has bought of this company, if it
-- has bought. Any order but these four breaks the first.
abbrev pub stock_judgement : Game → Seat → Option Company → Order → Option StockRule
stock_judgement game seat bought (Play (Par company price)) =
    purchase_judgement game.seats game.events seat (purchase.Par company price) bought
stock_judgement game seat bought (Play (BuyShare company from)) =
    purchase_judgement game.seats game.events seat (purchase.Share company from) bought
stock_judgement game seat bought (Play (Sell company shares)) =
    sale_judgement game.seats game.events seat (sale_of company shares) None
stock_judgement game seat bought (Play ExchangeMohawk) = exchange_judgement game seat
stock_judgement game seat bought other = Some NotOfStock

-- the first rule that an order breaks, as a ruling refuses an order
abbrev pub stock_refusal : Game → Seat → Option Company → Order → Option Refusal
stock_refusal game seat bought order = option_map Stock (stock_judgement game seat bought order)

-- the order can be done
abbrev pub MayAct : Game → Seat → Order → Type 0
MayAct game seat (Play (Par company price)) = MayStart game seat company price
MayAct game seat (Play (BuyShare company from)) = MayBuy game seat company from
MayAct game seat (Play (Sell company shares)) = MaySell game seat (sale_of company shares)
MayAct game seat (Play ExchangeMohawk) = MayExchange game seat
MayAct game seat other = Unit {0}

-- after what follows from an obeyed order of a seat
abbrev pub after_stock_order : Game → Seat → Order → Game
after_stock_order game seat (Play (Par company price)) = after_start game seat company price
after_stock_order game seat (Play (BuyShare company from)) = after_purchase game seat company from
after_stock_order game seat (Play (Sell company shares)) = after_sale game seat company shares
after_stock_order game seat (Play ExchangeMohawk) = after_exchange game seat
after_stock_order game seat other = game
