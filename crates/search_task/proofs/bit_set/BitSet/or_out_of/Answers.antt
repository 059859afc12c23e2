-- What is open is in reach and not marked; all else is barred.
use Rattle.std.proofs.Common.{List, Bool, subst}
use Rattle.search_task.specs.Marks.{AreOnly}
use Rattle.search_task.proofs.Words.{barred_out}
use Rattle.search_task.proofs.bit_set.BitSet.or_out_of.Goals as goal

pub returns : goal.returns
returns g c =
    barred_out g.row.COUNT c.args.self.now c.args.reach.now c.clear.new.self c.clear-2.new.self c.is_whole.ensures
    (subst (λ (marks : List Bool). AreOnly marks c.args.self.now c.clear.new.self) c.copy-open.ensures c.clear.ensures)
    (subst (λ (marks : List Bool). AreOnly marks c.clear.new.self c.clear-2.new.self) c.all-barred.ensures
    c.clear-2.ensures)
