-- The law is a lemma.
use Rattle.board.proofs.FitLaws.{lay_keeps_fit}
use Rattle.board.proofs.laws.lay_keeps_fit.Goals as goal

pub returns : goal.returns
returns c = lay_keeps_fit
