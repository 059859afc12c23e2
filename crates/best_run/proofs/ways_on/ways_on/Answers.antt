-- Of a run with one way on nothing is known.
use Rattle.best_run.proofs.Vain.{ways_unknown}
use Rattle.best_run.proofs.ways_on.ways_on.Goals as goal

pub returns-then-has_one_way-clause-ways : goal.returns-then-has_one_way-clause-ways
returns-then-has_one_way-clause-ways c =
    ways_unknown c.args.bounded.now.task.now c.args.assigned.now c.args.run.now c.args.best c.unknown.result
    c.unknown.ensures.vain c.unknown.ensures.turns
