-- The law is a lemma.
use Rattle.board.proofs.FitLaws.{token_keeps_fit}
use Rattle.board.proofs.laws.token_keeps_fit.Goals as goal

pub returns : goal.returns
returns c = token_keeps_fit
