-- The rows of the items so far.
use Rattle.std.proofs.Common.{◌≡◌, ◌++◌, map, take, flat_map}
use Rattle.moves.specs.StockRows.{orders_of_sale, stock_row}
use Rattle.moves.proofs.stock.push_sales.Given as goal

abbrev pub invariant-loop-shares : goal.invariant-loop-shares
invariant-loop-shares l =
    l.rows.items ≡ l.fn.rows.items
    ++ map (stock_row l.history l.seat l.bought) (flat_map (orders_of_sale l.history.events l.seat l.company) (take l.shares-index l.shares-items))
