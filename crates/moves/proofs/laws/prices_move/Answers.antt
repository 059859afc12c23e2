use Rattle.moves.proofs.PricesMove.{opening_prices_move, private_prices_move, stock_prices_move, train_prices_move}
use Rattle.moves.proofs.laws.prices_move.Goals as goal

pub returns-clause-stock : goal.returns-clause-stock
returns-clause-stock c = stock_prices_move

pub returns-clause-opening : goal.returns-clause-opening
returns-clause-opening c = opening_prices_move

pub returns-clause-trains : goal.returns-clause-trains
returns-clause-trains c = train_prices_move

pub returns-clause-privates : goal.returns-clause-privates
returns-clause-privates c = private_prices_move
