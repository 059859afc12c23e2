use Rattle.map_tables.proofs.NothingFits.{nothing_fits}
use Rattle.map_tables.proofs.laws.nothing_fits.Goals as goal

pub returns : goal.returns
returns c = nothing_fits
