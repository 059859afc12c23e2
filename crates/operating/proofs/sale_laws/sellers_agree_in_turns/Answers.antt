use Rattle.operating.proofs.SaleLaws.{turns_keep_agreed}
use Rattle.operating.proofs.sale_laws.sellers_agree_in_turns.Goals as goal

pub returns : goal.returns
returns c = turns_keep_agreed
