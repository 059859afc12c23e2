use Rattle.std.proofs.Common.{◌∷◌, [], ℕ}
use Rattle.moves.proofs.ParRows.{rows_above}
use Rattle.moves.specs.StockRows.{stock_row}
use Rattle.order_grammar.specs.declared.play.PlayOrder.TheVariants.{Par}
use Rattle.moves.proofs.stock.push_starts.Goals as goal

pub loop-row-preserved-in-Continue-1 : goal.loop-row-preserved-in-Continue-1
loop-row-preserved-in-Continue-1 c =
    rows_above (stock_row c.args.history.now c.args.seat c.args.bought) (λ (price : ℕ). Par c.args.company price ∷ [])
    c.loop-row.row c.in-Some.price c.par_value.result _ _ _ c.loop-row-test.true c.par_value.ensures c.in-Some.is
    c.loop-row.invariant c.in_ok-push_order.ensures
