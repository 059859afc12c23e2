use Rattle.report.proofs.PlainReports.{plain}
use Rattle.report.proofs.laws.plain_reports.Goals as goal

pub returns : goal.returns
returns c = plain c.version_one_is_ruled_plainly.ensures
