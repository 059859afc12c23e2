-- The sets are apart.
use Rattle.search_task.proofs.Crossings.{set_misses}
use Rattle.search_task.proofs.crossing.Crossing.misses.Goals as goal

pub returns : goal.returns
returns c =
    rw (← c.self.view_is)
    (set_misses c.args.used.now c.self.inside.set c.is_apart_from.result c.is_apart_from.ensures.apart
    c.is_apart_from.ensures.meet)
