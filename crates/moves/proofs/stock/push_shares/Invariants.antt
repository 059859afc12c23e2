-- The rows of the items so far.
use Rattle.std.proofs.Common.{◌≡◌, ◌∷◌, [], ◌++◌, map, take, flat_map}
use Rattle.moves.specs.StockRows.{stock_row}
use Rattle.order_grammar.specs.declared.order.ShareSource.{ShareSource}
use Rattle.order_grammar.specs.declared.play.PlayOrder.TheVariants.{BuyShare}
use Rattle.moves.proofs.stock.push_shares.Given as goal

abbrev pub invariant-loop-from : goal.invariant-loop-from
invariant-loop-from l =
    l.rows.items ≡ l.fn.rows.items
    ++ map (stock_row l.history l.seat l.bought) (flat_map (λ (from : ShareSource). BuyShare l.company from ∷ []) (take l.from-index l.from-items))
