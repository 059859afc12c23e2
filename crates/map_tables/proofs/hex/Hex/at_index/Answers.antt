-- The hexes are in the order of their numbers.
use Rattle.map_tables.specs.Hex.{hexes}
use Rattle.map_tables.proofs.HexTables.{hexes_at}
use Rattle.map_tables.proofs.hex.Hex.at_index.Goals as goal

pub returns : goal.returns
unfolding hexes
returns c = hexes_at c.args.index _ c.requires
