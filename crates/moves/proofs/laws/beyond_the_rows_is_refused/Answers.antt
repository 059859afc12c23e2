use Rattle.moves.proofs.LimitLemmas.{private_prices, sales_of_held, starts_at_par}
use Rattle.moves.proofs.laws.beyond_the_rows_is_refused.Goals as goal

pub returns-clause-sales : goal.returns-clause-sales
returns-clause-sales c = sales_of_held

pub returns-clause-starts : goal.returns-clause-starts
returns-clause-starts c = starts_at_par

pub returns-clause-privates : goal.returns-clause-privates
returns-clause-privates c = private_prices
