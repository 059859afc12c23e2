use Rattle.rounds.proofs.EachGame.{closed_for_good}
use Rattle.rounds.proofs.laws.closed_for_good_in_each_game.Goals as goal

pub returns : goal.returns
returns c =
    let laws = c.closed_for_good.ensures in
    closed_for_good laws.others laws.sales c.closed_for_good_in_turns.ensures
