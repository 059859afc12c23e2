use Rattle.std.proofs.Common.{◌∷◌, []}
use Rattle.moves.proofs.RowLemmas.{rows_done, rows_next, rows_none}
use Rattle.moves.specs.CompanyRows.{sources_of_bank, train_order, train_row}
use Rattle.order_grammar.specs.declared.order.TrainSource.{TrainSource}
use Rattle.moves.proofs.company.push_trains_of_bank.Goals as goal

pub loop-from-init : goal.loop-from-init
loop-from-init c = rows_none (train_row c.args.history.now c.args.company) (λ (from : TrainSource). train_order c.args.kind from ∷ []) _

pub loop-from-preserved : goal.loop-from-preserved
loop-from-preserved c =
    rows_next (train_row c.args.history.now c.args.company) (λ (from : TrainSource). train_order c.args.kind from ∷ []) _ c.loop-from.from-index _ _ _ _
    c.loop-from-test.true c.loop-from.invariant c.in_ok-push_train.ensures

pub returns : goal.returns
returns c =
    rows_done (train_row c.args.history.now c.args.company) (λ (from : TrainSource). train_order c.args.kind from ∷ []) sources_of_bank
    c.loop-from.from-index _ _ c.loop-from-test.false c.loop-from.invariant
