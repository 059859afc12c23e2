use Rattle.rounds.proofs.Calls.{game_called, some_called}
use Rattle.rounds.proofs.laws.some_calls.Goals as goal

pub returns-clause-each : goal.returns-clause-each
returns-clause-each c = game_called c.one_list_of_turn_calls.ensures.some

pub returns-clause-accepted : goal.returns-clause-accepted
returns-clause-accepted c = some_called c.some_game.ensures c.one_list_of_turn_calls.ensures.some
