-- What is in reach of the token is added, with what it is worth, unless it is in reach already.
use Rattle.std.proofs.Common.{refl, arith}
use Rattle.best_run.proofs.Beyond.{worth_most}
use Rattle.best_run.proofs.Capped.{token_known, token_more}
use Rattle.best_run.proofs.canonical.reach_token.Goals as goal

pub returns-then-is_passed : goal.returns-then-is_passed
returns-then-is_passed c =
    token_known c.args.task.now c.args.assigned.now.used c.args.stop c.args.reach.now
    (c.is_passed.ensures.lies c.if-is_passed.true) (c.is_passed.ensures.passes c.if-is_passed.true)

pub least-most-requires-clause-room : goal.least-most-requires-clause-room
least-most-requires-clause-room c =
    worth_most c.args.task.now c.is_ready.ensures.fit c.reach_of-near.result.ahead c.reach_of-near.result.worth
    c.reach_of-near.ensures.known

pub returns-then-most-reach : goal.returns-then-most-reach
returns-then-most-reach c =
    token_more c.args.task.now c.args.assigned.now.used c.args.stop c.reach_of-near.result.ahead
    c.reach_of-near.result.worth c.least-most.result c.args.reach.now
    (record { left = c.args.reach.now.left; ahead = c.with-reach.result; cap = c.least-most.result })
    c.reach_of-near.ensures.near c.reach_of-near.ensures.known c.least-most.ensures.least c.with-reach.ensures refl
    (omega arith) (omega (arith, c.if-most-reach.true))

pub returns-else-most-reach : goal.returns-else-most-reach
returns-else-most-reach c =
    token_more c.args.task.now c.args.assigned.now.used c.args.stop c.reach_of-near.result.ahead
    c.reach_of-near.result.worth c.least-most.result c.args.reach.now
    (record { left = c.args.reach.now.left; ahead = c.with-reach.result; cap = c.args.reach.now.cap })
    c.reach_of-near.ensures.near c.reach_of-near.ensures.known c.least-most.ensures.least c.with-reach.ensures refl
    (omega (arith, c.if-most-reach.false)) (omega arith)
