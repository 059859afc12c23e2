use Rattle.map_tables.proofs.HexTables.{row_at, row_within}
use Rattle.map_tables.proofs.hex.Hex.row.Goals as goal

pub returns-clause-value : goal.returns-clause-value
returns-clause-value c = rw c.index.ensures.value (row_at c.args.self)

pub returns-clause-least : goal.returns-clause-least
returns-clause-least c = rw (returns-clause-value c) (row_within c.args.self).0

pub returns-clause-most : goal.returns-clause-most
returns-clause-most c = rw (returns-clause-value c) (row_within c.args.self).1
