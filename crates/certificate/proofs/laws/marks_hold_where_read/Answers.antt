use Rattle.certificate.proofs.Holding.{hold_where_read}
use Rattle.certificate.proofs.laws.marks_hold_where_read.Goals as goal

pub returns : goal.returns
returns c = hold_where_read
