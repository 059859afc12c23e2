use Rattle.std.proofs.Common.{refl}
use Rattle.stock_round.specs.Turn.{stock_rules}
use Rattle.turns.proofs.RoundEnds.{ends_soon}
use Rattle.stock_round.proofs.laws.stock_round_ends.Goals as goal

pub returns : goal.returns
returns c = ends_soon stock_rules refl
