-- The set is joined.
use Rattle.search_task.proofs.Crossings.{set_marked}
use Rattle.search_task.proofs.crossing.Crossing.marked_in.Goals as goal

pub returns : goal.returns
returns c =
    rw (← c.self.view_is)
    (set_marked c.args.used.now c.self.inside.set c.with.result c.self.invariant c.is_whole.ensures c.with.ensures)
