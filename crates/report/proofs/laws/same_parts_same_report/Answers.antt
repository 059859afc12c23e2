use Rattle.report.proofs.Arrival.{same_report}
use Rattle.report.proofs.laws.same_parts_same_report.Goals as goal

pub returns : goal.returns
returns c = same_report c.same_parts_same_game.ensures
