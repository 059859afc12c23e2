use Rattle.moves.proofs.ConsentGiven.{offered_privates_obeyed, offered_privates_told, offered_trains_obeyed}
use Rattle.moves.proofs.ConsentGiven.{offered_trains_told}
use Rattle.moves.proofs.laws.offered_rows_are_obeyed.Goals as goal

pub returns-clause-trains_told : goal.returns-clause-trains_told
returns-clause-trains_told c = offered_trains_told

pub returns-clause-privates_told : goal.returns-clause-privates_told
returns-clause-privates_told c = offered_privates_told

pub returns-clause-trains : goal.returns-clause-trains
returns-clause-trains c = offered_trains_obeyed

pub returns-clause-privates : goal.returns-clause-privates
returns-clause-privates c = offered_privates_obeyed
