use Rattle.rounds.proofs.Calls.{of_the_game}
use Rattle.rounds.proofs.laws.calls_are_of_the_game.Goals as goal

pub returns : goal.returns
returns c = of_the_game
