use Rattle.std.proofs.Common.{◌∷◌, []}
use Rattle.moves.proofs.RowLemmas.{rows_both}
use Rattle.moves.specs.StockRows.{orders_of_companies, stock_row}
use Rattle.order_grammar.specs.declared.play.PlayOrder.TheVariants.{ExchangeMohawk}
use Rattle.moves.proofs.stock.push_orders.Goals as goal

pub returns : goal.returns
returns c =
    rows_both (stock_row c.args.history.now c.args.seat c.args.bought)
    (orders_of_companies c.args.history.now.events c.args.seat) (ExchangeMohawk ∷ []) _ _ _
    c.in_ok-push_companies.ensures c.in_ok-push_order.ensures
