-- The least by any level bounds what is ahead.
use Rattle.std.proofs.Common.{sym}
use Rattle.best_run.proofs.Lasting.{earns_ahead, has_most}
use Rattle.best_run.proofs.ways_on.most_ahead.Goals as goal

pub least-requires-clause-room : goal.least-requires-clause-room
least-requires-clause-room c =
    has_most c.args.task.now c.is_ready.ensures.fit c.args.assigned.now c.args.run.now c.args.outlook.now.ahead
    c.args.outlook.now.worth c.requires.known

pub least-requires-clause-first : goal.least-requires-clause-first
least-requires-clause-first c = c.requires.known.known.low

pub least-requires-clause-second : goal.least-requires-clause-second
least-requires-clause-second c = c.requires.known.known.order

pub returns-clause-most : goal.returns-clause-most
returns-clause-most c =
    earns_ahead c.args.task.now c.args.assigned.now c.args.run.now c.args.outlook.now.ahead c.args.outlook.now.worth
    c.goes_on-on.result c.goes_back-back.result c.least.result c.requires.known
    (sym c.goes_on-on.ensures) (sym c.goes_back-back.ensures) c.least.ensures.least
