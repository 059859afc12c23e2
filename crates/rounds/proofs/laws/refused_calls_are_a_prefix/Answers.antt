use Rattle.rounds.proofs.Calls.{a_prefix}
use Rattle.rounds.proofs.laws.refused_calls_are_a_prefix.Goals as goal

pub returns : goal.returns
returns c =
    a_prefix c.one_list_of_turn_calls.ensures.one c.one_list_of_turn_calls.ensures.prefix c.one_opening_round.ensures
    c.one_stock_round.ensures
