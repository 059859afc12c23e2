use Rattle.legal_runs.proofs.Written.{each_named}
use Rattle.legal_runs.proofs.laws.each_legal_run_is_named.Goals as goal

pub returns : goal.returns
returns c = each_named
