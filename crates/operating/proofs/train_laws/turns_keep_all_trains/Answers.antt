use Rattle.operating.proofs.TurnLaws.{turns_keep_all}
use Rattle.operating.proofs.train_laws.turns_keep_all_trains.Goals as goal

pub returns : goal.returns
returns c = turns_keep_all
