use Rattle.board_state.proofs.Lawfulness.{lawful}
use Rattle.operating.proofs.OneTurnCalled.{a_prefix, one_list}
use Rattle.operating.proofs.TurnCalled.{turn_called}
use Rattle.operating.proofs.laws.one_list_of_turn_calls.Goals as goal

pub returns-clause-one : goal.returns-clause-one
returns-clause-one c =
    one_list
    (lawful c.neighbours_pair.ensures c.printed_links_are_in_order.ensures c.laid_links_are_in_order.ensures
    c.values_are_at_most_80.ensures)

pub returns-clause-some : goal.returns-clause-some
returns-clause-some c = turn_called

pub returns-clause-prefix : goal.returns-clause-prefix
returns-clause-prefix c =
    a_prefix
    (lawful c.neighbours_pair.ensures c.printed_links_are_in_order.ensures c.laid_links_are_in_order.ensures
    c.values_are_at_most_80.ensures)
