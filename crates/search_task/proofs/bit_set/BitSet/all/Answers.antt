-- All bits are set.
use Rattle.search_task.proofs.Words.{all_marks, all_none, all_words}
use Rattle.search_task.proofs.bit_set.BitSet.all.Goals as goal

pub invariant_of-result : goal.invariant_of-result
unfolding all_words
invariant_of-result g c = (c.requires, all_none g.row.COUNT g.row.WORDS c.requires)

pub returns : goal.returns
unfolding all_words
returns g c = all_marks g.row.COUNT g.row.WORDS c.requires
