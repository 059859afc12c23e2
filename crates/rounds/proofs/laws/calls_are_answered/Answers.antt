use Rattle.rounds.proofs.Calls.{games_answered, steps_answered}
use Rattle.rounds.proofs.laws.calls_are_answered.Goals as goal

pub returns-clause-games : goal.returns-clause-games
returns-clause-games c = games_answered

pub returns-clause-steps : goal.returns-clause-steps
returns-clause-steps c = steps_answered
