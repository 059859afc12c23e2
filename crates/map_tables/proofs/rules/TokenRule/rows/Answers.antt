use Rattle.std.proofs.Common.{refl}
use Rattle.map_tables.specs.declared.rules.TokenRule.TheVariants as rule
use Rattle.map_tables.proofs.rules.TokenRule.rows.Goals as goal

-- each rule is found in its row
pub returns : goal.returns
returns c = elim [ rule.StepUsed ↦ refl | _ ↦ refl ]
