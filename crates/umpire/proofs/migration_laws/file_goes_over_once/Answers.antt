use Rattle.umpire.proofs.GoneOver.{goes_over_once}
use Rattle.umpire.proofs.migration_laws.file_goes_over_once.Goals as goal

pub returns : goal.returns
returns c = goes_over_once
