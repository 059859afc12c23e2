use Rattle.map_tables.proofs.Neighbours.{neighbour_at}
use Rattle.map_tables.proofs.border.neighbour.Goals as goal

pub returns : goal.returns
returns c = rw c.index.ensures.value rw c.number.ensures.value (neighbour_at c.args.hex c.args.side)
