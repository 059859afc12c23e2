use Rattle.operating.proofs.TurnLaws.{phases_go_on_in_turns}
use Rattle.operating.proofs.train_laws.phases_go_on_in_turns.Goals as goal

pub returns : goal.returns
returns c = phases_go_on_in_turns
