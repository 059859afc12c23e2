use Rattle.forced_purchase.proofs.Aid.{aid_is_what_lacks, no_aid_without_lack}
use Rattle.forced_purchase.proofs.laws.aid_is_what_lacks.Goals as goal

pub returns-clause-lack : goal.returns-clause-lack
returns-clause-lack c = aid_is_what_lacks

pub returns-clause-none : goal.returns-clause-none
returns-clause-none c = no_aid_without_lack
