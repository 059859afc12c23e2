use Rattle.totals.proofs.Empty.{same_throughout}
use Rattle.totals.proofs.apply_event.no_rulings.Goals as goal

pub returns : goal.returns
returns c = same_throughout 0 6
