use Rattle.rounds.proofs.PlainRounds.{family_alone}
use Rattle.rounds.proofs.laws.lines_without_condition_are_judged_alone.Goals as goal

pub returns : goal.returns
returns c = family_alone
