use Rattle.rounds.proofs.OneGame.{some_game_accepted}
use Rattle.rounds.proofs.laws.some_game.Goals as goal

pub returns : goal.returns
returns c =
    some_game_accepted c.sheets_are_numbered.ensures c.three_to_six_play.ensures c.opening_round_ends.ensures
    c.stock_round_ends.ensures c.operating_round_ends.ensures
