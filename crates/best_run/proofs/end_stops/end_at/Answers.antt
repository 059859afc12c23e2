-- What it was worth is taken away where it may be passed, and added where runs end.
use Rattle.std.proofs.Common.{◌≡◌, Some, arith}
use Rattle.search_task.specs.Spots.{node_at}
use Rattle.best_run.proofs.Beyond.{worth_low}
use Rattle.best_run.proofs.Lasting.{turned_ends}
use Rattle.best_run.proofs.end_stops.end_at.Goals as goal

pub take_back-requires : goal.take_back-requires
take_back-requires c = c.requires.passed.has.known.few

pub end-requires : goal.end-requires
end-requires c = omega (arith, c.requires.passed.has.known.order, c.take_back.ensures.first, c.take_back.ensures.second)

pub returns-then-is_last-clause-known : goal.returns-then-is_last-clause-known
returns-then-is_last-clause-known c =
    let task = c.args.task.now in
    let node = c.node-node.result.now in
    let at : node_at task c.args.spot ≡ Some node =
    c.node-node.ensures.node in
    turned_ends task c.args.assigned.now c.args.run.now c.args.outlook.now.ahead c.args.spot node at
    (omega (arith, c.node-node.ensures.low, c.is_ready.ensures.fit.all))
    (worth_low task c.is_ready.ensures.fit c.args.spot node c.node-node.ensures.node) c.requires.lies
    c.args.outlook.now.worth c.take_back.new.self c.end.new.self c.requires.passed
    (c.is_last.ensures c.if-is_last.true) c.take_back.ensures c.end.ensures

pub returns-else-is_last-clause-known : goal.returns-else-is_last-clause-known
returns-else-is_last-clause-known c = c.requires.passed.has
