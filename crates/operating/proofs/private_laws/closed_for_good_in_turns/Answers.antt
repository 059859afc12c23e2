use Rattle.operating.proofs.ClosedPrivates.{closed_stays_closed}
use Rattle.operating.proofs.private_laws.closed_for_good_in_turns.Goals as goal

pub returns : goal.returns
returns c = closed_stays_closed
