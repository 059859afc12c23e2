use Rattle.privates.proofs.Settling.{nothing_left}
use Rattle.privates.proofs.laws.nothing_is_left_to_settle.Goals as goal

pub returns : goal.returns
returns c = nothing_left
