use Rattle.std.proofs.Common.{refl}
use Rattle.map_tables.specs.Hex.{hexes}
use Rattle.map_tables.proofs.ListedOnce.{hexes_are_93, hex_is_listed}
use Rattle.map_tables.proofs.laws.hexes_are_listed_once.Goals as goal

pub returns-clause-all : goal.returns-clause-all
unfolding hexes
returns-clause-all c = refl

pub returns-clause-once : goal.returns-clause-once
returns-clause-once c = (hexes_are_93, hex_is_listed)
