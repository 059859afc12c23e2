use Rattle.rounds.proofs.CompanyTurns.{operating_ends}
use Rattle.rounds.proofs.laws.operating_round_ends.Goals as goal

pub returns : goal.returns
returns c =
    operating_ends c.company_operates.ensures c.company_turn_ends.ensures c.floated_companies_in_order.ensures
