use Rattle.moves.proofs.RowLemmas.{rows_done, rows_next, rows_none}
use Rattle.moves.specs.CompanyRows.{train_orders, train_row, trains_of_kind}
use Rattle.tables.specs.Train.{kinds}
use Rattle.moves.proofs.company.push_trains.Goals as goal

pub loop-kind-init : goal.loop-kind-init
loop-kind-init c = rows_none (train_row c.args.history.now c.args.company) (trains_of_kind c.args.history.now.events) _

pub loop-kind-preserved : goal.loop-kind-preserved
loop-kind-preserved c =
    rows_next (train_row c.args.history.now c.args.company) (trains_of_kind c.args.history.now.events) _ c.loop-kind.kind-index _ _ _ _
    c.loop-kind-test.true c.loop-kind.invariant c.in_ok-push_trains_of_kind.ensures

pub returns : goal.returns
unfolding train_orders
returns c =
    rows_done (train_row c.args.history.now c.args.company) (trains_of_kind c.args.history.now.events) kinds
    c.loop-kind.kind-index _ _ c.loop-kind-test.false c.loop-kind.invariant
