use Rattle.sheets.proofs.BeforeLemmas.{larger_limits}
use Rattle.sheets.proofs.laws.larger_limits_change_nothing.Goals as goal

pub returns : goal.returns
returns c = larger_limits
