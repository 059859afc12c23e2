use Rattle.umpire.proofs.AnsweredAgain.{answered_again}
use Rattle.umpire.proofs.laws.written_certificates_are_accepted.Goals as goal

pub returns : goal.returns
returns c = answered_again c.some_report.ensures c.certifying_groups_can_be_written.ensures
