use Rattle.operating.proofs.SaleLaws.{turns_say_no_bid}
use Rattle.operating.proofs.sale_laws.turns_say_no_bid.Goals as goal

pub returns : goal.returns
returns c = turns_say_no_bid
