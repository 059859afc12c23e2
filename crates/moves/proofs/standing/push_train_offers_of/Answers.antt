use Rattle.moves.proofs.RowLemmas.{rows_done, rows_next, rows_none}
use Rattle.moves.specs.StandingRows.{offers_of_kind, standing_row}
use Rattle.tables.specs.Train.{kinds}
use Rattle.moves.proofs.standing.push_train_offers_of.Goals as goal

pub loop-kind-init : goal.loop-kind-init
loop-kind-init c = rows_none (standing_row c.args.history.now.events c.args.seat) (offers_of_kind c.args.history.now.events c.args.seat c.args.seller) _

pub loop-kind-preserved : goal.loop-kind-preserved
loop-kind-preserved c =
    rows_next (standing_row c.args.history.now.events c.args.seat) (offers_of_kind c.args.history.now.events c.args.seat c.args.seller) _ c.loop-kind.kind-index _ _ _ _
    c.loop-kind-test.true c.loop-kind.invariant c.in_ok-push_offers_of_kind.ensures

pub returns : goal.returns
returns c =
    rows_done (standing_row c.args.history.now.events c.args.seat) (offers_of_kind c.args.history.now.events c.args.seat c.args.seller) kinds
    c.loop-kind.kind-index _ _ c.loop-kind-test.false c.loop-kind.invariant
