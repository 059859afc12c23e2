use Rattle.report.proofs.Arrival.{arrival_by}
use Rattle.report.proofs.laws.arrival_changes_no_report.Goals as goal

pub returns : goal.returns
returns c = arrival_by c.arrival_changes_nothing.ensures c.same_sheets_are_read_alike.ensures
    c.same_parts_same_game.ensures
