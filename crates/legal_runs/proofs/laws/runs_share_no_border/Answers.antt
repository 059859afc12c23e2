use Rattle.legal_runs.proofs.Sharing.{share_none}
use Rattle.legal_runs.proofs.laws.runs_share_no_border.Goals as goal

pub returns : goal.returns
returns c = share_none
