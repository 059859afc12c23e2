use Rattle.operating.proofs.BestEarnings.{best_earns_no_less}
use Rattle.operating.proofs.best_laws.best_earns_no_less.Goals as goal

pub returns : goal.returns
returns c = best_earns_no_less
