use Rattle.legal_runs.proofs.Relabelled.{greater_trains}
use Rattle.legal_runs.proofs.laws.greater_trains_earn_no_less.Goals as goal

pub returns : goal.returns
returns c = greater_trains
