use Rattle.moves.proofs.RowLemmas.{rows_done, rows_next, rows_none}
use Rattle.moves.specs.CompanyRows.{orders_of_private, private_row}
use Rattle.tables.specs.Roster.{privates}
use Rattle.moves.proofs.company.push_privates.Goals as goal

pub loop-private-init : goal.loop-private-init
loop-private-init c = rows_none (private_row c.args.history.now c.args.company) orders_of_private _

pub loop-private-preserved : goal.loop-private-preserved
loop-private-preserved c =
    rows_next (private_row c.args.history.now c.args.company) orders_of_private _ c.loop-private.private-index _ _ _ _
    c.loop-private-test.true c.loop-private.invariant c.in_ok-push_private.ensures

pub returns : goal.returns
returns c =
    rows_done (private_row c.args.history.now c.args.company) orders_of_private privates
    c.loop-private.private-index _ _ c.loop-private-test.false c.loop-private.invariant
