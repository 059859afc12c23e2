use Rattle.moves.proofs.RowLemmas.{rows_done, rows_next, rows_none}
use Rattle.moves.specs.Deals.{share_numbers}
use Rattle.desk_may.specs.RaiseRows.{raise_if_held, raise_row}
use Rattle.desk_may.proofs.raise_rows.push_raises_of.Goals as goal

pub loop-shares-init : goal.loop-shares-init
loop-shares-init c =
    rows_none (raise_row c.args.history.now c.args.by)
    (raise_if_held c.args.history.now.events c.args.by.president c.args.company) _

pub loop-shares-preserved : goal.loop-shares-preserved
loop-shares-preserved c =
    rows_next (raise_row c.args.history.now c.args.by)
    (raise_if_held c.args.history.now.events c.args.by.president c.args.company) _ c.loop-shares.shares-index _ _ _ _
    c.loop-shares-test.true c.loop-shares.invariant c.in_ok-push_if_held.ensures

pub returns : goal.returns
returns c =
    rows_done (raise_row c.args.history.now c.args.by)
    (raise_if_held c.args.history.now.events c.args.by.president c.args.company) share_numbers c.loop-shares.shares-index
    _ _ c.loop-shares-test.false c.loop-shares.invariant
