use Rattle.purchases.proofs.ClosedPrivates.{closed_has_no_owner, others_keep_closed, sales_keep_closed}
use Rattle.purchases.proofs.laws.closed_for_good.Goals as goal

pub returns-clause-owner : goal.returns-clause-owner
returns-clause-owner c = closed_has_no_owner

pub returns-clause-others : goal.returns-clause-others
returns-clause-others c = others_keep_closed

pub returns-clause-sales : goal.returns-clause-sales
returns-clause-sales c = sales_keep_closed
