use Rattle.purchases.proofs.Complete.{others_keep_all, others_keep_standing, stand_at_first}
use Rattle.purchases.proofs.Fleet.{purchases_keep_all}
use Rattle.purchases.proofs.laws.all_trains_are_there.Goals as goal

pub returns-clause-first : goal.returns-clause-first
returns-clause-first c = stand_at_first

pub returns-clause-others : goal.returns-clause-others
returns-clause-others c = others_keep_all

pub returns-clause-standing : goal.returns-clause-standing
returns-clause-standing c = others_keep_standing

pub returns-clause-purchases : goal.returns-clause-purchases
returns-clause-purchases c = purchases_keep_all
