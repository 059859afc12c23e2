use Rattle.certificate.proofs.Accepted.{accepted_is_greatest}
use Rattle.certificate.proofs.laws.accepted_is_greatest.Goals as goal

pub returns : goal.returns
returns c = accepted_is_greatest
