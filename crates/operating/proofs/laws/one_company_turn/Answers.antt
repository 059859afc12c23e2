use Rattle.board_state.proofs.Lawfulness.{lawful}
use Rattle.operating.proofs.Outcome.{one_turn}
use Rattle.operating.proofs.laws.one_company_turn.Goals as goal

pub returns : goal.returns
returns c =
    one_turn
    (lawful c.neighbours_pair.ensures c.printed_links_are_in_order.ensures c.laid_links_are_in_order.ensures
    c.values_are_at_most_80.ensures)
