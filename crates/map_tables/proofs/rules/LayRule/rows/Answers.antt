use Rattle.std.proofs.Common.{refl}
use Rattle.map_tables.specs.declared.rules.LayRule.TheVariants as rule
use Rattle.map_tables.proofs.rules.LayRule.rows.Goals as goal

-- each rule is found in its row
pub returns : goal.returns
returns c = elim [ rule.StepUsed ↦ refl | _ ↦ refl ]
