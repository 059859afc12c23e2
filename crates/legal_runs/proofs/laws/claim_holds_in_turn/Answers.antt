use Rattle.legal_runs.proofs.InTurn.{holds_in_turn}
use Rattle.legal_runs.proofs.laws.claim_holds_in_turn.Goals as goal

pub returns : goal.returns
returns c = holds_in_turn
