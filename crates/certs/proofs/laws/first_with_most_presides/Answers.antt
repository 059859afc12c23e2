use Rattle.certs.proofs.Presidents.{first_with_most}
use Rattle.certs.proofs.laws.first_with_most_presides.Goals as goal

pub returns : goal.returns
returns c = λ shares old others. first_with_most shares old others
