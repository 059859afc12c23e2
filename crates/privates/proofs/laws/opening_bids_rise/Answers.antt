use Rattle.privates.proofs.OpeningBids.{opening_bids_rise}
use Rattle.privates.proofs.laws.opening_bids_rise.Goals as goal

pub returns : goal.returns
returns c = opening_bids_rise
