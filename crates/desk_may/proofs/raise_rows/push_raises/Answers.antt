use Rattle.moves.proofs.RowLemmas.{rows_done, rows_next, rows_none}
use Rattle.desk_may.specs.RaiseRows.{raise_row, raises, raises_of}
use Rattle.tables.specs.Roster.{companies}
use Rattle.desk_may.proofs.raise_rows.push_raises.Goals as goal

pub loop-company-init : goal.loop-company-init
loop-company-init c =
    rows_none (raise_row c.args.history.now c.args.by) (raises_of c.args.history.now.events c.args.by.president) _

pub loop-company-preserved : goal.loop-company-preserved
loop-company-preserved c =
    rows_next (raise_row c.args.history.now c.args.by) (raises_of c.args.history.now.events c.args.by.president) _
    c.loop-company.company-index _ _ _ _ c.loop-company-test.true c.loop-company.invariant c.in_ok-push_raises_of.ensures

pub returns : goal.returns
unfolding raises
returns c =
    rows_done (raise_row c.args.history.now c.args.by) (raises_of c.args.history.now.events c.args.by.president) companies
    c.loop-company.company-index _ _ c.loop-company-test.false c.loop-company.invariant
