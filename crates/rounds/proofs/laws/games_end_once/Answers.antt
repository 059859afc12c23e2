use Rattle.rounds.proofs.GameEnds.{end_once, nothing_else}
use Rattle.rounds.proofs.laws.games_end_once.Goals as goal

pub returns-clause-once : goal.returns-clause-once
returns-clause-once c = end_once

pub returns-clause-only : goal.returns-clause-only
returns-clause-only c = nothing_else
