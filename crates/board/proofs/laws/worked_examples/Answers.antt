-- The examples are a lemma.
use Rattle.board.proofs.Examples.{worked_examples}
use Rattle.board.proofs.laws.worked_examples.Goals as goal

pub returns : goal.returns
returns c = worked_examples
