use Rattle.umpire.proofs.GoneOver.{says_the_same}
use Rattle.umpire.proofs.migration_laws.file_says_the_same.Goals as goal

pub returns : goal.returns
returns c = says_the_same
