use Rattle.moves.proofs.ExactLemmas.{tokens_exact}
use Rattle.moves.proofs.laws.tokens_are_exact.Goals as goal

pub returns : goal.returns
returns c = tokens_exact c.hexes_are_listed_once.ensures.once
