use Rattle.moves.proofs.ExactLemmas.{lays_exact}
use Rattle.moves.proofs.laws.lays_are_exact.Goals as goal

pub returns : goal.returns
returns c = lays_exact c.hexes_are_listed_once.ensures.once c.tiles_are_listed_once.ensures.once
