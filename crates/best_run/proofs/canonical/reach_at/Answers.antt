-- What is in reach of the stop is added, unless it is in reach already.
use Rattle.best_run.proofs.Capped.{at_known, at_more}
use Rattle.best_run.proofs.canonical.reach_at.Goals as goal

pub returns-then-is_passed : goal.returns-then-is_passed
returns-then-is_passed c =
    at_known c.args.task.now c.args.assigned.now.used c.args.stop c.args.ahead.now
    (c.is_passed.ensures.lies c.if-is_passed.true)

pub returns : goal.returns
returns c =
    at_more c.args.task.now c.args.assigned.now.used c.args.stop c.args.ahead.now c.reach_of-near.result.ahead
    c.with.result c.reach_of-near.ensures.near c.with.ensures
