use Rattle.rounds.proofs.ReadAlike.{arrival_no_game}
use Rattle.rounds.proofs.laws.arrival_changes_no_game.Goals as goal

pub returns : goal.returns
returns c = arrival_no_game c.arrival_changes_nothing.ensures
