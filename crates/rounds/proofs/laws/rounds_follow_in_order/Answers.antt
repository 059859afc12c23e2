use Rattle.rounds.proofs.InOrder.{follow_in_order}
use Rattle.rounds.proofs.laws.rounds_follow_in_order.Goals as goal

pub returns : goal.returns
returns c = follow_in_order c.turn_only_adds.ensures c.sheets_are_numbered.ensures c.three_to_six_play.ensures
