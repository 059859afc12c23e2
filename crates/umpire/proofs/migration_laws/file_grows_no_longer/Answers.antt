use Rattle.umpire.proofs.GoneOver.{grows_no_longer}
use Rattle.umpire.proofs.migration_laws.file_grows_no_longer.Goals as goal

pub returns : goal.returns
returns c = grows_no_longer
