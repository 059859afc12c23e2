use Rattle.operating.proofs.Bankruptcies.{bankruptcy_ends}
use Rattle.operating.proofs.forced_laws.bankruptcy_ends_turns.Goals as goal

pub returns : goal.returns
returns c = bankruptcy_ends
