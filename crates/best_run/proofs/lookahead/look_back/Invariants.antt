-- The legs before the next one are gone over, as far as the run may turn back by them.
use Rattle.best_run.specs.Ahead.{WidensBackBelow}
use Rattle.best_run.specs.EndStops.{HasWorth}
use Rattle.best_run.proofs.lookahead.look_back.Given as goal

abbrev pub invariant-loop-index : goal.invariant-loop-index
invariant-loop-index l =
    WidensBackBelow l.task l.assigned l.run l.index l.initial.outlook.ahead l.outlook.ahead
    × HasWorth l.task l.assigned l.run l.outlook.ahead l.outlook.worth
