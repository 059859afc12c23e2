use Rattle.certs.proofs.PaidOut.{no_more_is_paid}
use Rattle.certs.proofs.laws.no_more_is_paid.Goals as goal

pub returns : goal.returns
returns c = no_more_is_paid
