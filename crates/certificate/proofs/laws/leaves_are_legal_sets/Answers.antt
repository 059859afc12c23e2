use Rattle.certificate.proofs.Leaves.{leaves_legal}
use Rattle.certificate.proofs.laws.leaves_are_legal_sets.Goals as goal

pub returns : goal.returns
returns c = leaves_legal
