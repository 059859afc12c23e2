use Rattle.purchases.proofs.ConsentLemmas.{companies_agree, owners_agree}
use Rattle.purchases.proofs.SaleLaws.{others_keep_agreed}
use Rattle.purchases.proofs.laws.sellers_agree.Goals as goal

pub returns-clause-trains : goal.returns-clause-trains
returns-clause-trains c = companies_agree

pub returns-clause-privates : goal.returns-clause-privates
returns-clause-privates c = owners_agree

pub returns-clause-others : goal.returns-clause-others
returns-clause-others c = others_keep_agreed
