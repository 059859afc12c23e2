use Rattle.market.proofs.Operating.{is_operating_order}
use Rattle.market.proofs.laws.floated_companies_in_order.Goals as goal

pub returns : goal.returns
returns c = is_operating_order
