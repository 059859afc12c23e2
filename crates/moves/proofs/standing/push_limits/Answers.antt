use Rattle.moves.proofs.RowLemmas.{rows_done, rows_next, rows_none}
use Rattle.moves.specs.StandingRows.{before_row, limit_on}
use Rattle.tables.specs.Roster.{privates}
use Rattle.moves.proofs.standing.push_limits.Goals as goal

pub loop-private-init : goal.loop-private-init
loop-private-init c = rows_none (before_row c.args.history.now.events) (limit_on c.args.history.now.events c.args.seat) _

pub loop-private-preserved : goal.loop-private-preserved
loop-private-preserved c =
    rows_next (before_row c.args.history.now.events) (limit_on c.args.history.now.events c.args.seat) _ c.loop-private.private-index _ _ _ _
    c.loop-private-test.true c.loop-private.invariant c.in_ok-push_limit.ensures

pub returns : goal.returns
returns c =
    rows_done (before_row c.args.history.now.events) (limit_on c.args.history.now.events c.args.seat) privates
    c.loop-private.private-index _ _ c.loop-private-test.false c.loop-private.invariant
