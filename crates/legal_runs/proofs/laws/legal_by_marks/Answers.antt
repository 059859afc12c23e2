use Rattle.legal_runs.proofs.Sharing.{legal_by_marks}
use Rattle.legal_runs.proofs.laws.legal_by_marks.Goals as goal

pub returns : goal.returns
returns c = legal_by_marks
