use Rattle.std.proofs.Common.{refl}
use Rattle.events.specs.declared.ruling.TrainRule.TheVariants as rule
use Rattle.events.proofs.ruling.TrainRule.rows.Goals as goal

-- each rule is found in its row
pub returns : goal.returns
returns c = elim [ rule.NotOnSale ↦ refl | _ ↦ refl ]
