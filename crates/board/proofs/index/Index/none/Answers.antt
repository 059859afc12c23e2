-- Nothing lies by tables that have nothing.
use Rattle.std.proofs.Common.{refl, []}
use Rattle.board.proofs.Indexed.{all_mapped, index_of_none}
use Rattle.board.specs.KeptLinks.{held}
use Rattle.board.proofs.index.Index.none.Goals as goal

pub returns : goal.returns
returns c = index_of_none _ _ _ _ refl (all_mapped held 93 c.none.result [] c.none.ensures.links) refl refl
