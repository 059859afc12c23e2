-- Such a run is never finished.
use Rattle.std.proofs.Common.{arith}
use Rattle.std.proofs.lemmas.Bool.{ltb-true}
use Rattle.best_run.proofs.Equal.{no_dearer}
use Rattle.best_run.proofs.ways_on.earns_too_much.Goals as goal

pub returns : goal.returns
returns c holds best moves completes =
    absurd (no_dearer c.args.task.now moves c.args.assigned.now c.args.run.now (omega arith) (omega arith)
    (ltb-true _ _ holds) completes)
