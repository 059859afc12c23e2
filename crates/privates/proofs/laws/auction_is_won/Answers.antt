use Rattle.privates.proofs.Auctions.{won_at_price}
use Rattle.privates.proofs.laws.auction_is_won.Goals as goal

pub returns : goal.returns
returns c = won_at_price
