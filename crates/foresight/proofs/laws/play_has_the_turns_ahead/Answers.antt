use Rattle.foresight.proofs.PlayedLemmas.{orders_played_so, rounds_begin_so, turns_played_so}
use Rattle.foresight.proofs.laws.play_has_the_turns_ahead.Goals as goal

pub returns-clause-begun : goal.returns-clause-begun
returns-clause-begun c = rounds_begin_so

pub returns-clause-turns : goal.returns-clause-turns
returns-clause-turns c = turns_played_so

pub returns-clause-orders : goal.returns-clause-orders
returns-clause-orders c = orders_played_so
