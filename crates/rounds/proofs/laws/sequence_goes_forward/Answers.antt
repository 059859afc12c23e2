use Rattle.rounds.proofs.Forward.{goes_forward}
use Rattle.rounds.proofs.laws.sequence_goes_forward.Goals as goal

pub returns : goal.returns
returns c = goes_forward
