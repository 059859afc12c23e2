-- What a seat has done with shares in its turn.
use Rattle.std.specs.Prelude.{Bool, true, false, ◌||◌, Some, None, is_some}
use Rattle.order_grammar.specs.declared.order.Order.{Order}
use Rattle.order_grammar.specs.declared.order.Order.TheVariants.{Play}
use Rattle.order_grammar.specs.declared.play.PlayOrder.TheVariants.{Par, BuyShare, Sell}
use Rattle.stock_round.specs.declared.deals.ShareDeals.{ShareDeals}
use Rattle.tables.specs.declared.roster.Company.{Company}

-- a seat has done nothing yet
abbrev pub no_deals : ShareDeals
no_deals = record { bought = None; sold = false }

-- a seat has bought or sold
abbrev pub has_acted : ShareDeals → Bool
has_acted deals = is_some deals.bought || deals.sold

-- a seat has bought a certificate of a company too
abbrev pub with_purchase : ShareDeals → Company → ShareDeals
with_purchase deals company = record { bought = Some company; sold = deals.sold }

-- a seat has sold shares too
abbrev pub with_sale : ShareDeals → ShareDeals
with_sale deals = record { bought = deals.bought; sold = true }

-- what a seat has done after an order that was obeyed; an exchange is neither a purchase nor a sale
abbrev pub with_deal : ShareDeals → Order → ShareDeals
with_deal deals (Play (Par company price)) = with_purchase deals company
with_deal deals (Play (BuyShare company from)) = with_purchase deals company
with_deal deals (Play (Sell company shares)) = with_sale deals
with_deal deals other = deals
