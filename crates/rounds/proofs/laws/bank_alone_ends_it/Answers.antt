use Rattle.rounds.proofs.Coming.{some_comes}
use Rattle.rounds.proofs.laws.bank_alone_ends_it.Goals as goal

pub returns : goal.returns
returns c = some_comes
