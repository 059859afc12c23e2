-- The sets are apart; or what one has and the other has as well is left.
use Rattle.std.proofs.Common.{Bool, List, subst}
use Rattle.search_task.specs.Marks.{AreOnly}
use Rattle.search_task.proofs.Crossings.{set_apart, set_shared}
use Rattle.search_task.proofs.crossing.Crossing.shared.Goals as goal

pub returns-then-is_apart_from-clause-shared : goal.returns-then-is_apart_from-clause-shared
returns-then-is_apart_from-clause-shared c =
    rw (← c.self.view_is, ← c.other.view_is)
    (set_apart c.self.inside.set c.other.inside.set (c.is_apart_from.ensures.apart c.if-is_apart_from.true))

pub returns-clause-shared : goal.returns-clause-shared
returns-clause-shared c =
    rw (← c.self.view_is, ← c.other.view_is)
    (set_shared c.self.inside.set c.other.inside.set c.clear.new.self c.clear-2.new.self c.first.result
    (subst (λ (marks : List Bool). AreOnly marks c.other.inside.set c.clear.new.self) c.copy-rest.ensures
    c.clear.ensures)
    (subst (λ (marks : List Bool). AreOnly marks c.clear.new.self c.clear-2.new.self) c.copy-shared.ensures
    c.clear-2.ensures)
    c.first.ensures.marked)
