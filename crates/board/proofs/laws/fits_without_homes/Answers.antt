-- The law is a lemma.
use Rattle.board.proofs.FitLaws.{fits_without_homes}
use Rattle.board.proofs.laws.fits_without_homes.Goals as goal

pub returns : goal.returns
returns c = fits_without_homes
