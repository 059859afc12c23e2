use Rattle.moves.proofs.RowRulings.{private_ruled, train_ruled}
use Rattle.moves.proofs.laws.company_rows_are_ruled.Goals as goal

pub returns-clause-privates : goal.returns-clause-privates
returns-clause-privates c = private_ruled

pub returns-clause-trains : goal.returns-clause-trains
returns-clause-trains c = train_ruled
