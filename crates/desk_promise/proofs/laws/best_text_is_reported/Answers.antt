use Rattle.desk_promise.proofs.LaysText.{best_text_reported}
use Rattle.desk_promise.proofs.laws.best_text_is_reported.Goals as goal

pub returns : goal.returns
returns c = best_text_reported c.best_is_reported.ensures
