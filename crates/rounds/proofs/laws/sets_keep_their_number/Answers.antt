use Rattle.rounds.proofs.GameEnds.{keep_their_number}
use Rattle.rounds.proofs.laws.sets_keep_their_number.Goals as goal

pub returns : goal.returns
returns c = keep_their_number
