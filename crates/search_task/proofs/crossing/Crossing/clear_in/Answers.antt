-- The set is taken away.
use Rattle.search_task.proofs.Crossings.{set_cleared}
use Rattle.search_task.proofs.crossing.Crossing.clear_in.Goals as goal

pub returns : goal.returns
returns c =
    rw (← c.self.view_is)
    (set_cleared c.args.marks.now c.self.inside.set c.clear.new.self c.clear.ensures)
