use Rattle.std.proofs.Common.{rules}
use Rattle.map_tables.specs.Hex.{index_of, hexes, site_of}
use Rattle.map_tables.proofs.hex.Hex.index.Goals as goal

pub returns-clause-value : goal.returns-clause-value
unfolding index_of hexes site_of
returns-clause-value c = search rules
