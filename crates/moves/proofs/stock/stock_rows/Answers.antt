use Rattle.std.proofs.Common.{◌++◌, List, ap, map, ◌∙◌}
use Rattle.moves.specs.StockRows.{stock_orders, stock_row}
use Rattle.moves.specs.declared.row.Row.{Row}
use Rattle.moves.proofs.stock.stock_rows.Goals as goal

pub returns : goal.returns
returns c =
    c.in_ok-push_orders.ensures
    ∙ ap (λ (rows : List Row). rows ++ map (stock_row c.args.history.now c.args.seat c.args.bought)
    (stock_orders c.args.history.now.events c.args.seat)) c.new-rows.ensures.items
