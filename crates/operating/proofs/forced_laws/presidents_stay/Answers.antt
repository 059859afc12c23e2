use Rattle.operating.proofs.Presidency.{president_stays}
use Rattle.operating.proofs.forced_laws.presidents_stay.Goals as goal

pub returns : goal.returns
returns c = president_stays
