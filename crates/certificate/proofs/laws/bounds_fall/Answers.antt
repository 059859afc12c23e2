use Rattle.certificate.proofs.Leaves.{bounds_fall}
use Rattle.certificate.proofs.laws.bounds_fall.Goals as goal

pub returns : goal.returns
returns c = bounds_fall
