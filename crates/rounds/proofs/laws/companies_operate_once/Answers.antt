use Rattle.rounds.proofs.CompanyTurns.{operate_once}
use Rattle.rounds.proofs.laws.companies_operate_once.Goals as goal

pub returns : goal.returns
returns c = operate_once c.company_operates.ensures c.floated_companies_in_order.ensures
