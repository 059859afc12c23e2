use Rattle.totals.proofs.EventAtEnd.{cash_of_at_end}
use Rattle.history.proofs.laws.cash_moves.Goals as goal

pub returns : goal.returns
returns c = cash_of_at_end
