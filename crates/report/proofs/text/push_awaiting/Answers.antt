use Rattle.report.specs.Report.{name_owing}
use Rattle.report.proofs.text.push_awaiting.Goals as goal
use Rattle.tables.proofs.OneMore.{seats_step}

pub loop-seat-preserved : goal.loop-seat-preserved
loop-seat-preserved c =
    seats_step (λ seat. name_owing c.args.sheets.now c.args.round.now seat) c.loop-seat.seat _ _ _
    c.loop-seat.invariant c.in_ok-push_owing.ensures
