use Rattle.map_tables.proofs.ListedOnce.{one_print}
use Rattle.map_tables.proofs.laws.prints_are_listed_once.Goals as goal

pub returns : goal.returns
returns c = one_print
