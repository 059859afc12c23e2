use Rattle.map_tables.proofs.Values.{red_area}
use Rattle.map_tables.proofs.laws.red_areas_are_joined.Goals as goal

pub returns : goal.returns
returns c = red_area
