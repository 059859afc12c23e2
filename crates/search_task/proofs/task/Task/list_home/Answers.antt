-- The spot is listed if it is a home.
use Rattle.std.proofs.Common.{ap, ◌∙◌, arith}
use Rattle.search_task.specs.Spots.{own_in}
use Rattle.search_task.proofs.Homes.{homes_listed, homes_same}
use Rattle.search_task.proofs.Places.{node_is}
use Rattle.search_task.proofs.task.Task.list_home.Goals as goal

pub returns-in_ok-push : goal.returns-in_ok-push
returns-in_ok-push c =
    let task = c.args.self.now in
    let there = node_is task c.requires.fit c.args.spot c.index.result.now c.requires.spot c.index.ensures in
    rw (c.in_ok-push.ensures.items, c.of.ensures)
    (homes_listed task 0 c.args.spot c.args.homes.now.items (omega arith) (ap own_in there ∙ c.if-index.true)
    c.requires.before)

pub returns-else-index : goal.returns-else-index
returns-else-index c =
    let task = c.args.self.now in
    let there = node_is task c.requires.fit c.args.spot c.index.result.now c.requires.spot c.index.ensures in
    homes_same task 0 c.args.spot c.args.homes.now.items (ap own_in there ∙ c.if-index.false) c.requires.before
