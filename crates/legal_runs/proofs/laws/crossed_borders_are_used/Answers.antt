use Rattle.legal_runs.proofs.TallyOfWalk.{crossed_used}
use Rattle.legal_runs.proofs.laws.crossed_borders_are_used.Goals as goal

pub returns : goal.returns
returns c = crossed_used
