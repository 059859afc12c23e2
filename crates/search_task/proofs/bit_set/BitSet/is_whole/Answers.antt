-- There is a mark for each number.
use Rattle.std.proofs.Common.{Bool, List, length, ap, sym, ◌∙◌}
use Rattle.search_task.proofs.Words.{length_marks}
use Rattle.search_task.proofs.bit_set.BitSet.is_whole.Goals as goal

pub returns : goal.returns
returns g c = sym (ap (λ (marks : List Bool). length marks) c.self.view_is) ∙ length_marks g.row.COUNT
    c.self.inside.words
