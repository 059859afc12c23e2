use Rattle.operating.proofs.Operated.{company_operates}
use Rattle.operating.proofs.laws.company_operates.Goals as goal

pub returns : goal.returns
returns c = company_operates
