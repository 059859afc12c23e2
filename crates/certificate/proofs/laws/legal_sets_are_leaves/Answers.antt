use Rattle.certificate.proofs.SetBelow.{sets_are_leaves}
use Rattle.certificate.proofs.laws.legal_sets_are_leaves.Goals as goal

pub returns : goal.returns
returns c = sets_are_leaves
