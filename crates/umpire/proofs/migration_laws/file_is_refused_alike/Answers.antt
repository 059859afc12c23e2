use Rattle.umpire.proofs.GoneOver.{refused_alike}
use Rattle.umpire.proofs.migration_laws.file_is_refused_alike.Goals as goal

pub returns : goal.returns
returns c = refused_alike
