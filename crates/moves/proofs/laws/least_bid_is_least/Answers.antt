use Rattle.moves.proofs.LeastBid.{least_is_least}
use Rattle.moves.proofs.laws.least_bid_is_least.Goals as goal

pub returns : goal.returns
returns c = least_is_least
