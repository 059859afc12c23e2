use Rattle.map_tables.proofs.Values.{hex_value, tile_value}
use Rattle.map_tables.proofs.laws.values_are_at_most_80.Goals as goal

pub returns : goal.returns
returns c = (hex_value, tile_value)
