use Rattle.board_state.proofs.Lawfulness.{lawful}
use Rattle.operating.proofs.Outcome.{turn_ends}
use Rattle.operating.proofs.laws.company_turn_ends.Goals as goal

pub returns : goal.returns
returns c =
    turn_ends
    (lawful c.neighbours_pair.ensures c.printed_links_are_in_order.ensures c.laid_links_are_in_order.ensures
    c.values_are_at_most_80.ensures)
