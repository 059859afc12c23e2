use Rattle.map_tables.proofs.ListedOnce.{hexes_told_apart}
use Rattle.map_tables.proofs.laws.hexes_are_told_apart.Goals as goal

pub returns : goal.returns
returns c = hexes_told_apart
