use Rattle.totals.proofs.Empty.{no_bid}
use Rattle.totals.proofs.apply_event.no_limits.Goals as goal

pub returns : goal.returns
returns c = no_bid
