-- The rows of the par values of the rows of the chart so far, from the lowest.
use Rattle.std.proofs.Common.{◌≡◌, ◌∷◌, [], ◌++◌, map, flat_map, ℕ}
use Rattle.moves.specs.StockRows.{stock_row}
use Rattle.order_grammar.specs.declared.play.PlayOrder.TheVariants.{Par}
use Rattle.tables.specs.Chart.{par_values_from}
use Rattle.moves.proofs.stock.push_starts.Given as goal

abbrev pub invariant-loop-row : goal.invariant-loop-row
invariant-loop-row l =
    l.rows.items ≡ l.fn.rows.items
    ++ map (stock_row l.history l.seat l.bought) (flat_map (λ (price : ℕ). Par l.company price ∷ []) (par_values_from l.row))
