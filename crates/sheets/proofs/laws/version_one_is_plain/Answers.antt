use Rattle.sheets.proofs.PlainLemmas.{plain_law, plain_outside_law}
use Rattle.sheets.proofs.laws.version_one_is_plain.Goals as goal

pub returns-clause-sheets : goal.returns-clause-sheets
returns-clause-sheets c = plain_law c.version_one_has_no_conditions.ensures

pub returns-clause-outside : goal.returns-clause-outside
returns-clause-outside c = plain_outside_law c.version_one_has_no_conditions.ensures
