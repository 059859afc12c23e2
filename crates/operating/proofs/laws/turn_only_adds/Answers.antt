use Rattle.operating.proofs.TurnLaws.{only_adds}
use Rattle.operating.proofs.laws.turn_only_adds.Goals as goal

pub returns : goal.returns
returns c = only_adds
