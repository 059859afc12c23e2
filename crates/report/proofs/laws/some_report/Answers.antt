use Rattle.report.proofs.OneReport.{some_report_by}
use Rattle.report.proofs.laws.some_report.Goals as goal

pub returns : goal.returns
returns c = some_report_by c.some_game.ensures
