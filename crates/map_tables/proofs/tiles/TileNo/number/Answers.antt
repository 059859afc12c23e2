use Rattle.map_tables.proofs.TileTables.{number_at}
use Rattle.map_tables.proofs.tiles.TileNo.number.Goals as goal

pub returns : goal.returns
returns c = rw c.index.ensures.value (number_at c.args.self)
