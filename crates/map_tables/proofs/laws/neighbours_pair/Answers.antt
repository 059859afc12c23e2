use Rattle.map_tables.proofs.BordersPair.{pair}
use Rattle.map_tables.proofs.laws.neighbours_pair.Goals as goal

pub returns : goal.returns
returns c = pair
