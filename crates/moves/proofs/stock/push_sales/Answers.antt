use Rattle.moves.proofs.RowLemmas.{rows_done, rows_next, rows_none}
use Rattle.moves.specs.StockRows.{numbers, orders_of_sale, stock_row}
use Rattle.moves.proofs.stock.push_sales.Goals as goal

pub loop-shares-init : goal.loop-shares-init
loop-shares-init c = rows_none (stock_row c.args.history.now c.args.seat c.args.bought) (orders_of_sale c.args.history.now.events c.args.seat c.args.company) _

pub loop-shares-preserved : goal.loop-shares-preserved
loop-shares-preserved c =
    rows_next (stock_row c.args.history.now c.args.seat c.args.bought) (orders_of_sale c.args.history.now.events c.args.seat c.args.company) _ c.loop-shares.shares-index _ _ _ _
    c.loop-shares-test.true c.loop-shares.invariant c.in_ok-push_sale.ensures

pub returns : goal.returns
returns c =
    rows_done (stock_row c.args.history.now c.args.seat c.args.bought) (orders_of_sale c.args.history.now.events c.args.seat c.args.company) numbers
    c.loop-shares.shares-index _ _ c.loop-shares-test.false c.loop-shares.invariant
