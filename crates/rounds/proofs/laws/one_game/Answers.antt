use Rattle.rounds.proofs.OneGame.{game_once}
use Rattle.rounds.proofs.laws.one_game.Goals as goal

pub returns : goal.returns
returns c = game_once c.one_opening_round.ensures c.one_stock_round.ensures c.one_operating_round.ensures
