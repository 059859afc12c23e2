-- No bit is set.
use Rattle.search_task.proofs.Words.{none_marks}
use Rattle.search_task.proofs.bit_set.BitSet.none.Goals as goal

pub returns : goal.returns
returns g c = none_marks g.row.COUNT g.row.WORDS
