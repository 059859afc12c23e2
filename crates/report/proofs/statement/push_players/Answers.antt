use Rattle.report.specs.Statement.{player_line}
use Rattle.report.proofs.statement.push_players.Goals as goal
use Rattle.tables.proofs.OneMore.{seats_step}

pub loop-seat-preserved : goal.loop-seat-preserved
loop-seat-preserved c =
    seats_step (λ seat. player_line c.args.sheets.now c.args.view.now (record { 0 = seat })) c.loop-seat.seat _ _ _
    c.loop-seat.invariant c.in_ok-push_player.ensures
