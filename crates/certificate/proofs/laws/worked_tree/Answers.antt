use Rattle.certificate.proofs.Example.{worked_tree}
use Rattle.certificate.proofs.laws.worked_tree.Goals as goal

pub returns : goal.returns
returns c = worked_tree
