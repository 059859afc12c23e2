use Rattle.sheets.proofs.ContentLemmas.{too_long}
use Rattle.sheets.proofs.laws.long_file_is_refused.Goals as goal

pub returns : goal.returns
returns c = too_long
