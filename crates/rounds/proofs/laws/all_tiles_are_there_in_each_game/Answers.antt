use Rattle.rounds.proofs.EachGame.{tiles_are_there}
use Rattle.rounds.proofs.laws.all_tiles_are_there_in_each_game.Goals as goal

pub returns : goal.returns
returns c =
    let laws = c.all_tiles_are_there.ensures in
    tiles_are_there laws.first laws.others laws.turns
