use Rattle.std.proofs.Common.{refl}
use Rattle.events.specs.declared.ruling.PrivateRule.TheVariants as rule
use Rattle.events.proofs.ruling.PrivateRule.rows.Goals as goal

-- each rule is found in its row
pub returns : goal.returns
returns c = elim [ rule.TooEarly ↦ refl | _ ↦ refl ]
