use Rattle.map_tables.proofs.Turns.{six_turns}
use Rattle.map_tables.proofs.laws.six_turns_are_none.Goals as goal

pub returns : goal.returns
returns c = six_turns
