use Rattle.rounds.proofs.Example.{second_plays}
use Rattle.rounds.proofs.laws.second_example.Goals as goal

pub returns : goal.returns
returns c = second_plays
