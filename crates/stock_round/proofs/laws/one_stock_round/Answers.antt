use Rattle.stock_round.specs.Turn.{stock_rules}
use Rattle.turns.proofs.RoundEnds.{ends_once}
use Rattle.stock_round.proofs.laws.one_stock_round.Goals as goal

pub returns : goal.returns
returns c = ends_once stock_rules
