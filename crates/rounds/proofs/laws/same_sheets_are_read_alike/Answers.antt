use Rattle.rounds.proofs.ReadAlike.{read_alike}
use Rattle.rounds.proofs.laws.same_sheets_are_read_alike.Goals as goal

pub returns : goal.returns
returns c = read_alike
