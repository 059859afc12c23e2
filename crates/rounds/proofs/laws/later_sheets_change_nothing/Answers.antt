use Rattle.rounds.proofs.ReadAlike.{later_nothing}
use Rattle.rounds.proofs.laws.later_sheets_change_nothing.Goals as goal

pub returns : goal.returns
returns c = later_nothing c.sheets_are_numbered.ensures c.three_to_six_play.ensures
