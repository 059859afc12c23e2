use Rattle.certificate.proofs.Accepted.{written_marks_hold}
use Rattle.certificate.proofs.laws.written_marks_hold.Goals as goal

pub returns : goal.returns
returns c = written_marks_hold
