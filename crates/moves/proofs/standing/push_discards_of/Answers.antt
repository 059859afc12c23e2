use Rattle.moves.proofs.RowLemmas.{rows_done, rows_next, rows_none}
use Rattle.moves.specs.StandingRows.{discard_of, standing_row}
use Rattle.tables.specs.Train.{kinds}
use Rattle.moves.proofs.standing.push_discards_of.Goals as goal

pub loop-kind-init : goal.loop-kind-init
loop-kind-init c = rows_none (standing_row c.args.history.now.events c.args.seat) (discard_of c.args.history.now.events c.args.seat c.args.company) _

pub loop-kind-preserved : goal.loop-kind-preserved
loop-kind-preserved c =
    rows_next (standing_row c.args.history.now.events c.args.seat) (discard_of c.args.history.now.events c.args.seat c.args.company) _ c.loop-kind.kind-index _ _ _ _
    c.loop-kind-test.true c.loop-kind.invariant c.in_ok-push_discard.ensures

pub returns : goal.returns
returns c =
    rows_done (standing_row c.args.history.now.events c.args.seat) (discard_of c.args.history.now.events c.args.seat c.args.company) kinds
    c.loop-kind.kind-index _ _ c.loop-kind-test.false c.loop-kind.invariant
