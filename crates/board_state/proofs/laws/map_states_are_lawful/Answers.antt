-- The laws of the map's tables make each position lawful.
use Rattle.board_state.proofs.Lawfulness.{lawful}
use Rattle.board_state.proofs.laws.map_states_are_lawful.Goals as goal

pub returns : goal.returns
returns c =
    λ laid. lawful c.neighbours_pair.ensures c.printed_links_are_in_order.ensures c.laid_links_are_in_order.ensures
    c.values_are_at_most_80.ensures laid
