use Rattle.report.proofs.OneReport.{one_report_by}
use Rattle.report.proofs.laws.one_report.Goals as goal

pub returns : goal.returns
returns c = one_report_by c.one_game.ensures
