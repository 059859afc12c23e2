use Rattle.operating.proofs.LegalRuns.{obeyed_legal}
use Rattle.operating.proofs.laws.obeyed_runs_are_legal.Goals as goal

pub returns : goal.returns
returns c = obeyed_legal
