use Rattle.std.proofs.Common.{refl}
use Rattle.privates.specs.Turn.{opening_rules}
use Rattle.turns.proofs.RoundEnds.{ends_soon}
use Rattle.privates.proofs.laws.opening_round_ends.Goals as goal

pub returns : goal.returns
returns c = ends_soon opening_rules refl
