use Rattle.sheets.proofs.LawLemmas.{arrival_law}
use Rattle.sheets.proofs.laws.arrival_changes_nothing.Goals as goal

pub returns : goal.returns
returns c = arrival_law
