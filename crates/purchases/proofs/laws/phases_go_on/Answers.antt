use Rattle.purchases.proofs.TrainSteps.{phases_go_on}
use Rattle.purchases.proofs.laws.phases_go_on.Goals as goal

pub returns : goal.returns
returns c = phases_go_on
