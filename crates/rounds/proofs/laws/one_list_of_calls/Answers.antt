use Rattle.rounds.proofs.Calls.{one_list}
use Rattle.rounds.proofs.laws.one_list_of_calls.Goals as goal

pub returns : goal.returns
returns c =
    one_list c.one_list_of_turn_calls.ensures.one c.one_list_of_turn_calls.ensures.prefix c.one_opening_round.ensures
    c.one_stock_round.ensures
