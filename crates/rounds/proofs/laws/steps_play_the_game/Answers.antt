use Rattle.rounds.proofs.StepByStep.{steps_play}
use Rattle.rounds.proofs.laws.steps_play_the_game.Goals as goal

pub returns : goal.returns
returns c = steps_play c.one_opening_round.ensures c.one_stock_round.ensures c.one_operating_round.ensures
    c.some_game.ensures
