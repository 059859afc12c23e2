use Rattle.sheets.proofs.LawLemmas.{last_sheet_counts_law}
use Rattle.sheets.proofs.laws.last_sheet_counts.Goals as goal

pub returns : goal.returns
returns c = last_sheet_counts_law
