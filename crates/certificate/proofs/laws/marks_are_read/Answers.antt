use Rattle.certificate.proofs.Accepted.{marks_are_read}
use Rattle.certificate.proofs.laws.marks_are_read.Goals as goal

pub returns : goal.returns
returns c = marks_are_read
