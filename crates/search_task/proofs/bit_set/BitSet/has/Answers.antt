-- The bit is tested.
use Rattle.std.proofs.Common.{Bool, false, List, get_or, ap, sym, ◌∙◌}
use Rattle.search_task.proofs.Words.{mark_is, test_is}
use Rattle.search_task.proofs.bit_set.BitSet.has.Goals as goal

pub returns : goal.returns
returns g c =
    test_is c.self.inside.words c.args.number
    ∙ (sym (mark_is g.row.COUNT c.self.inside.words c.args.number c.requires)
    ∙ ap (λ (marks : List Bool). get_or marks c.args.number false) c.self.view_is)
