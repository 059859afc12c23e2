use Rattle.rounds.proofs.ReadAlike.{same_game}
use Rattle.rounds.proofs.laws.same_parts_same_game.Goals as goal

pub returns : goal.returns
returns c = same_game
