-- The rows of the items so far.
use Rattle.std.proofs.Common.{◌≡◌, ◌++◌, map, take, flat_map}
use Rattle.moves.specs.StockRows.{orders_of, stock_row}
use Rattle.moves.proofs.stock.push_companies.Given as goal

abbrev pub invariant-loop-company : goal.invariant-loop-company
invariant-loop-company l =
    l.rows.items ≡ l.fn.rows.items
    ++ map (stock_row l.history l.seat l.bought) (flat_map (orders_of l.history.events l.seat) (take l.company-index l.company-items))
