use Rattle.rounds.proofs.StepByStep.{call_the_game}
use Rattle.rounds.proofs.laws.steps_call_the_game.Goals as goal

pub returns : goal.returns
returns c = call_the_game
