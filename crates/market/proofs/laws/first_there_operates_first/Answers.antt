use Rattle.std.proofs.Common.{refl}
use Rattle.market.specs.OperatingOrder.{operating_order_of}
use Rattle.market.proofs.laws.first_there_operates_first.Goals as goal

pub returns : goal.returns
unfolding operating_order_of
returns c = refl
