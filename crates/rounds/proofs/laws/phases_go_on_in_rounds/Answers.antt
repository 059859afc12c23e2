use Rattle.rounds.proofs.EachGame.{phases_go_on}
use Rattle.rounds.proofs.laws.phases_go_on_in_rounds.Goals as goal

pub returns : goal.returns
returns c = phases_go_on c.phases_go_on_in_turns.ensures
