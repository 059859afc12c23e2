use Rattle.umpire.proofs.GoneOver.{changes_no_report}
use Rattle.umpire.proofs.migration_laws.migration_changes_no_report.Goals as goal

pub returns : goal.returns
returns c = changes_no_report c.same_parts_same_report.ensures
