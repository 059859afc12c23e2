-- One more bit is set.
use Rattle.std.proofs.Common.{Bool, true, List, set, ap, ◌∙◌, arith}
use Rattle.search_task.proofs.Words.{set_mark, set_none}
use Rattle.search_task.proofs.bit_set.BitSet.mark.Goals as goal

pub invariant_of-self : goal.invariant_of-self
invariant_of-self g c = (
  c.self.invariant.0,
  set_none g.row.COUNT c.self.inside.words c.args.number c.requires (omega arith)
      c.self.invariant.1,
)

pub returns : goal.returns
returns g c =
    set_mark g.row.COUNT c.self.inside.words c.args.number c.requires (omega arith)
    ∙ ap (λ (marks : List Bool). set marks c.args.number true) c.self.view_is
