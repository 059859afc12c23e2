use Rattle.rounds.proofs.GameEnds.{broken_ends, no_set_after}
use Rattle.rounds.proofs.laws.broken_bank_ends_games.Goals as goal

pub returns-clause-sets : goal.returns-clause-sets
returns-clause-sets c = no_set_after c.turn_only_adds.ensures

pub returns-clause-rounds : goal.returns-clause-rounds
returns-clause-rounds c = broken_ends
