use Rattle.umpire.proofs.ReadAgain.{reads_back}
use Rattle.umpire.proofs.laws.certificates_are_read_again.Goals as goal

pub returns : goal.returns
returns c = reads_back
