use Rattle.sheets.proofs.AcceptedLemmas.{three_to_six_play_law}
use Rattle.sheets.proofs.laws.three_to_six_play.Goals as goal

pub returns : goal.returns
returns c = three_to_six_play_law
