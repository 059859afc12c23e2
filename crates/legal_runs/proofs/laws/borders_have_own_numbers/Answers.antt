use Rattle.legal_runs.proofs.Borders.{own_numbers}
use Rattle.legal_runs.proofs.laws.borders_have_own_numbers.Goals as goal

pub returns : goal.returns
returns c = own_numbers c.neighbours_pair.ensures
