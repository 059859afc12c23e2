use Rattle.certificate.proofs.Example.{worked_marks}
use Rattle.certificate.proofs.laws.worked_marks.Goals as goal

pub returns : goal.returns
returns c = worked_marks
