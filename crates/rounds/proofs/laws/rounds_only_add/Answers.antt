use Rattle.rounds.proofs.InOrder.{round_adds}
use Rattle.rounds.proofs.laws.rounds_only_add.Goals as goal

pub returns : goal.returns
returns c = round_adds c.turn_only_adds.ensures
