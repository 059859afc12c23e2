use Rattle.std.proofs.Common.{[]}
use Rattle.desk_trials.specs.Refusals.{row_at}
use Rattle.desk_trials.proofs.refusals.rows_at.Goals as goal
use Rattle.tables.proofs.OneMore.{elements_step}

pub loop-place-preserved : goal.loop-place-preserved
loop-place-preserved c =
    elements_step (row_at c.args.events.now c.args.seat) c.args.places.now c.loop-place.place-index _ [] _ _
    c.loop-place-test.true c.loop-place.invariant c.in_ok-push_row.ensures
