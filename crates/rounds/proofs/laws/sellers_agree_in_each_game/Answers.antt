use Rattle.rounds.proofs.EachGame.{sellers_agree}
use Rattle.rounds.proofs.laws.sellers_agree_in_each_game.Goals as goal

pub returns : goal.returns
returns c =
    sellers_agree c.sellers_agree.ensures.others c.sellers_agree_in_turns.ensures
