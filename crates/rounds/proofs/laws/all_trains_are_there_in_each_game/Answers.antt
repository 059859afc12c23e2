use Rattle.rounds.proofs.EachGame.{trains_are_there}
use Rattle.rounds.proofs.laws.all_trains_are_there_in_each_game.Goals as goal

pub returns : goal.returns
returns c =
    let laws = c.all_trains_are_there.ensures in
    trains_are_there laws.first laws.standing c.turns_keep_all_trains.ensures
