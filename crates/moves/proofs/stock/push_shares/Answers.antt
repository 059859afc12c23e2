use Rattle.std.proofs.Common.{◌∷◌, []}
use Rattle.moves.proofs.RowLemmas.{rows_done, rows_next, rows_none}
use Rattle.moves.specs.StockRows.{stock_row}
use Rattle.moves.specs.Deals.{sources}
use Rattle.order_grammar.specs.declared.order.ShareSource.{ShareSource}
use Rattle.order_grammar.specs.declared.play.PlayOrder.TheVariants.{BuyShare}
use Rattle.moves.proofs.stock.push_shares.Goals as goal

pub loop-from-init : goal.loop-from-init
loop-from-init c = rows_none (stock_row c.args.history.now c.args.seat c.args.bought) (λ (from : ShareSource). BuyShare c.args.company from ∷ []) _

pub loop-from-preserved : goal.loop-from-preserved
loop-from-preserved c =
    rows_next (stock_row c.args.history.now c.args.seat c.args.bought) (λ (from : ShareSource). BuyShare c.args.company from ∷ []) _ c.loop-from.from-index _ _ _ _
    c.loop-from-test.true c.loop-from.invariant c.in_ok-push_order.ensures

pub returns : goal.returns
returns c =
    rows_done (stock_row c.args.history.now c.args.seat c.args.bought) (λ (from : ShareSource). BuyShare c.args.company from ∷ []) sources
    c.loop-from.from-index _ _ c.loop-from-test.false c.loop-from.invariant
