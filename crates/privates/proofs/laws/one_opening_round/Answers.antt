use Rattle.privates.specs.Turn.{opening_rules}
use Rattle.turns.proofs.RoundEnds.{ends_once}
use Rattle.privates.proofs.laws.one_opening_round.Goals as goal

pub returns : goal.returns
returns c = ends_once opening_rules
