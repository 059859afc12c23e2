-- The set lies within the other one.
use Rattle.search_task.proofs.Crossings.{set_within}
use Rattle.search_task.proofs.crossing.Crossing.is_within.Goals as goal

pub returns : goal.returns
returns c holds =
    rw (← c.self.view_is, ← c.other.view_is)
    (set_within c.self.inside.set c.other.inside.set (c.is_within.ensures holds))
