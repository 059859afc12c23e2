-- The border is one of the map.
use Rattle.std.proofs.Common.{sym, subst}
use Rattle.reach.specs.Walk.{entered_at}
use Rattle.search_task.specs.Fit.{BordersFit}
use Rattle.search_task.proofs.Described.{border_fits}
use Rattle.search_task.proofs.spots.segment_of.Goals as goal

pub of-requires : goal.of-requires
of-requires c = subst BordersFit (sym c.requires)
    (border_fits (entered_at c.args.step).hex (entered_at c.args.step).end)
