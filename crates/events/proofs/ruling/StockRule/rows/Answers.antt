use Rattle.std.proofs.Common.{refl}
use Rattle.events.specs.declared.ruling.StockRule.TheVariants as rule
use Rattle.events.proofs.ruling.StockRule.rows.Goals as goal

-- each rule is found in its row
pub returns : goal.returns
returns c = elim [ rule.NotOfStock ↦ refl | _ ↦ refl ]
