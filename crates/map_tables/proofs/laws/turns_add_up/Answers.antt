use Rattle.map_tables.proofs.Turns.{turns}
use Rattle.map_tables.proofs.laws.turns_add_up.Goals as goal

pub returns : goal.returns
returns c = turns
