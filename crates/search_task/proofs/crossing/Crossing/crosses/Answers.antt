-- The set has it.
use Rattle.std.proofs.Common.{sym, ◌∙◌}
use Rattle.search_task.proofs.MarkedNumbers.{in_set}
use Rattle.search_task.proofs.crossing.Crossing.crosses.Goals as goal

pub returns : goal.returns
returns c holds =
    rw (← c.self.view_is)
    ((in_set c.self.inside.set c.args.border).0 (sym c.has.ensures ∙ holds))
