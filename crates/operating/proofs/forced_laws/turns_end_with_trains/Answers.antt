use Rattle.operating.proofs.ForcedTrains.{turns_end_with_trains}
use Rattle.operating.proofs.forced_laws.turns_end_with_trains.Goals as goal

pub returns : goal.returns
returns c = turns_end_with_trains
