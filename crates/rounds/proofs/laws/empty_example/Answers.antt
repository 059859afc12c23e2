use Rattle.rounds.proofs.Example.{empty_refused}
use Rattle.rounds.proofs.laws.empty_example.Goals as goal

pub returns : goal.returns
returns c = empty_refused
