use Rattle.certificate.proofs.Leaves.{leaves_earn}
use Rattle.certificate.proofs.laws.leaves_earn_their_bounds.Goals as goal

pub returns : goal.returns
returns c = leaves_earn
