use Rattle.sheets.proofs.GroupLemmas.{few_written_turns}
use Rattle.sheets.proofs.laws.sheets_have_few_turns.Goals as goal

pub returns : goal.returns
returns c = few_written_turns
