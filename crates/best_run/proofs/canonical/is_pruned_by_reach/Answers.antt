-- The level that was chosen for a token bounds what each run from there earns.
use Rattle.best_run.proofs.Reached.{reach_earns}
use Rattle.best_run.proofs.canonical.is_pruned_by_reach.Goals as goal

pub returns : goal.returns
returns c holds =
    reach_earns c.args.bounded.now.task.now c.is_ready.ensures.fit c.is_ready.ensures.ready c.args.assigned.now c.args.reach.now c.args.best
    c.requires.capped c.marks_all_borders.ensures (c.are_pruned_by_cap.ensures holds)
