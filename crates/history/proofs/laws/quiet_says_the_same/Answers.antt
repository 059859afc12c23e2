use Rattle.totals.proofs.EventAtEnd.{quiet_same}
use Rattle.history.proofs.laws.quiet_says_the_same.Goals as goal

pub returns : goal.returns
returns c = quiet_same
