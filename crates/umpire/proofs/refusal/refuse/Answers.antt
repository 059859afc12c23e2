use Rattle.umpire.proofs.Stopping.{refuses_short}
use Rattle.umpire.proofs.refusal.refuse.Goals as goal

pub returns-in-Err : goal.returns-in-Err
returns-in-Err g c = refuses_short _ _ _ _ _ c.in-Err.ensures.err c.in-Err.ensures.prefix
