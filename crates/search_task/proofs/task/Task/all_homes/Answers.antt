-- There is none at the sides of a hex.
use Rattle.std.proofs.Common.{◌+◌, ◌*◌, arith}
use Rattle.search_task.proofs.Homes.{homes_on, no_home}
use Rattle.search_task.proofs.task.Task.all_homes.Goals as goal

pub list_home-requires-clause-before : goal.list_home-requires-clause-before
list_home-requires-clause-before c =
    let task = c.args.self.now in
    let hex = c.loop-hex.hex in
    homes_on task 0 (8 * hex) (8 * hex + 6) c.loop-hex.homes.items (omega arith) (no_home task c.requires hex)
    c.loop-hex.invariant
