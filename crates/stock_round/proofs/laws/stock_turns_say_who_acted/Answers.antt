use Rattle.stock_round.proofs.TurnLemmas.{stock_turns_say}
use Rattle.stock_round.proofs.laws.stock_turns_say_who_acted.Goals as goal

pub returns : goal.returns
returns c = stock_turns_say
