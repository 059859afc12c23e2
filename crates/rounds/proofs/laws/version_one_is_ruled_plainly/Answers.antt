use Rattle.rounds.proofs.PlainGames.{ruled_plainly}
use Rattle.rounds.proofs.laws.version_one_is_ruled_plainly.Goals as goal

pub returns : goal.returns
returns c = ruled_plainly c.version_one_is_plain.ensures.sheets
