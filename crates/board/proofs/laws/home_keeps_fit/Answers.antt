-- The law is a lemma.
use Rattle.board.proofs.FitLaws.{home_keeps_fit}
use Rattle.board.proofs.laws.home_keeps_fit.Goals as goal

pub returns : goal.returns
returns c = home_keeps_fit
