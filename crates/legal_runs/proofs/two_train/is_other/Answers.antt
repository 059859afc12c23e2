-- Stops differ by their places in the order of the map.
use Rattle.std.proofs.Common.{arith}
use Rattle.std.proofs.lemmas.Bool.Decides.{nat_tests}
use Rattle.reach.proofs.Spots.{same_order}
use Rattle.legal_runs.proofs.two_train.is_other.Goals as goal

pub returns : goal.returns
returns c = grind (arith, nat_tests, same_order)
