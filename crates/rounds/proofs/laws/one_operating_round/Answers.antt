use Rattle.rounds.proofs.CompanyTurns.{operating_once}
use Rattle.rounds.proofs.laws.one_operating_round.Goals as goal

pub returns : goal.returns
returns c = operating_once c.one_company_turn.ensures
