use Rattle.sheets.proofs.LawLemmas.{no_parts_law}
use Rattle.sheets.proofs.laws.arrival_changes_no_parts.Goals as goal

pub returns : goal.returns
returns c = no_parts_law
