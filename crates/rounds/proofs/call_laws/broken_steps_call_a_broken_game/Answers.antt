use Rattle.rounds.proofs.StepByStep.{broken_steps}
use Rattle.rounds.proofs.call_laws.broken_steps_call_a_broken_game.Goals as goal

pub returns : goal.returns
returns c = broken_steps
