use Rattle.desk_promise.proofs.LaysText.{lays_lines_reported}
use Rattle.desk_promise.proofs.laws.lays_lines_are_reported.Goals as goal

pub returns : goal.returns
returns c = lays_lines_reported c.lays_are_reported.ensures.lays c.lays_are_reported.ensures.tokens
