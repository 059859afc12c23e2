use Rattle.report.proofs.ByRound.{parts_of_report}
use Rattle.report.proofs.laws.report_is_its_parts.Goals as goal

pub returns : goal.returns
returns c = parts_of_report c.rounds_follow_in_order.ensures
