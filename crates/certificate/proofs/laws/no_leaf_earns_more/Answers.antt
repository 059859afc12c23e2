use Rattle.certificate.proofs.Leaves.{no_leaf_more}
use Rattle.certificate.proofs.laws.no_leaf_earns_more.Goals as goal

pub returns : goal.returns
returns c = no_leaf_more
