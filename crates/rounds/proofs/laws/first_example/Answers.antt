use Rattle.rounds.proofs.Example.{first_plays}
use Rattle.rounds.proofs.laws.first_example.Goals as goal

pub returns : goal.returns
returns c = first_plays
