use Rattle.std.proofs.Common.{refl}
use Rattle.order_grammar.specs.declared.fault.Fault.TheVariants as rule
use Rattle.order_grammar.proofs.fault.Fault.rows.Goals as goal

-- each rule is found in its row
pub returns : goal.returns
returns c = elim [ rule.TooLong ↦ refl | _ ↦ refl ]
