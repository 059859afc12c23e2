use Rattle.totals.proofs.EventAtEnd.{last_said_at_end}
use Rattle.history.proofs.laws.last_word_is_last.Goals as goal

pub returns : goal.returns
returns g c = last_said_at_end
