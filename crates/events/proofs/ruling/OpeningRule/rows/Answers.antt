use Rattle.std.proofs.Common.{refl}
use Rattle.events.specs.declared.ruling.OpeningRule.TheVariants as rule
use Rattle.events.proofs.ruling.OpeningRule.rows.Goals as goal

-- each rule is found in its row
pub returns : goal.returns
returns c = elim [ rule.NotOfOpening ↦ refl | _ ↦ refl ]
