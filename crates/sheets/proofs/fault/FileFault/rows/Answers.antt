use Rattle.std.proofs.Common.{refl}
use Rattle.sheets.specs.declared.fault.FileFault.TheVariants as rule
use Rattle.sheets.proofs.fault.FileFault.rows.Goals as goal

-- each rule is found in its row
pub returns : goal.returns
returns c = elim [ rule.Header ↦ refl | _ ↦ refl ]
