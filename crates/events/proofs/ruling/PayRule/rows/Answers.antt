use Rattle.std.proofs.Common.{refl}
use Rattle.events.specs.declared.ruling.PayRule.TheVariants as rule
use Rattle.events.proofs.ruling.PayRule.rows.Goals as goal

-- each rule is found in its row
pub returns : goal.returns
returns c = elim [ rule.NothingToPay ↦ refl ]
