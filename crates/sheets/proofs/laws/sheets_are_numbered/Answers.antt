use Rattle.sheets.proofs.NumberLemmas.{sheets_are_numbered_law}
use Rattle.sheets.proofs.laws.sheets_are_numbered.Goals as goal

pub returns : goal.returns
returns c = sheets_are_numbered_law c.read_where_spelt.ensures
