-- Nothing was in reach before the stop was.
use Rattle.std.proofs.Common.{List, Bool, subst}
use Rattle.best_run.specs.Canonical.{Holds}
use Rattle.best_run.proofs.Capped.{near_of}
use Rattle.best_run.proofs.canonical.reach_of.Goals as goal

pub hold-requires : goal.hold-requires
hold-requires c =
    rw c.nothing_ahead-near.ensures.ahead (c.nothing_ahead-near.ensures.known c.args.task.now.spots.items)

pub returns-clause-near : goal.returns-clause-near
returns-clause-near c =
    near_of c.args.task.now c.args.assigned.now c.args.stop c.hold.new.reach.ahead c.reach_from.new.reach.ahead
    (subst (λ (ms : List Bool). Holds c.args.stop ms c.hold.new.reach.ahead) c.nothing_ahead-near.ensures.ahead
    c.hold.ensures.holds) c.reach_from.ensures.reaches
