use Rattle.rounds.proofs.Calls.{calls_named}
use Rattle.rounds.proofs.call_laws.calls_are_named.Goals as goal

pub returns : goal.returns
returns c = calls_named c.sheets_are_numbered.ensures c.three_to_six_play.ensures
