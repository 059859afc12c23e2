use Rattle.moves.proofs.RowLemmas.{rows_done, rows_next, rows_none}
use Rattle.moves.specs.OpeningRows.{opening_row, orders_on}
use Rattle.tables.specs.Roster.{privates}
use Rattle.moves.proofs.opening.push_privates.Goals as goal

pub loop-private-init : goal.loop-private-init
loop-private-init c = rows_none (opening_row c.args.history.now c.args.seat c.args.used) (orders_on c.args.history.now.events) _

pub loop-private-preserved : goal.loop-private-preserved
loop-private-preserved c =
    rows_next (opening_row c.args.history.now c.args.seat c.args.used) (orders_on c.args.history.now.events) _ c.loop-private.private-index _ _ _ _
    c.loop-private-test.true c.loop-private.invariant c.in_ok-push_private.ensures

pub returns : goal.returns
returns c =
    rows_done (opening_row c.args.history.now c.args.seat c.args.used) (orders_on c.args.history.now.events) privates
    c.loop-private.private-index _ _ c.loop-private-test.false c.loop-private.invariant
