use Rattle.umpire.proofs.LawLemmas.{parted_again}
use Rattle.umpire.proofs.laws.joined_is_parted.Goals as goal

pub returns : goal.returns
returns c = parted_again
