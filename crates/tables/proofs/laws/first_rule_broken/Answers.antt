use Rattle.tables.proofs.Rules.{breaks_first, none_broken}
use Rattle.tables.proofs.laws.first_rule_broken.Goals as goal

pub returns-clause-none : goal.returns-clause-none
returns-clause-none g c = λ rules none. none_broken rules none

pub returns-clause-some : goal.returns-clause-some
returns-clause-some g c = λ code rules first. breaks_first code rules first
