use Rattle.rounds.proofs.GameEnds.{bankruptcy_ends, no_turn_after}
use Rattle.rounds.proofs.laws.bankruptcy_ends_games.Goals as goal

pub returns-clause-turns : goal.returns-clause-turns
returns-clause-turns c = no_turn_after

pub returns-clause-rounds : goal.returns-clause-rounds
returns-clause-rounds c = bankruptcy_ends
