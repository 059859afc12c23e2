use Rattle.std.proofs.Common.{arith}
use Rattle.events.specs.Event.{train_owner_place}
use Rattle.totals.proofs.BalanceTables.{train_count_moved, train_row_low}
use Rattle.totals.specs.Totals.{train_row}
use Rattle.totals.proofs.balances.apply_train_owner.Goals as goal

pub returns-in-Some : goal.returns-in-Some
returns-in-Some c = λ owner moderate.
    train_count_moved c.in-Some.train _ owner _ _ _ _ c.in-Some.ensures c.row_of_trains-from.ensures.row
    c.row_of_trains-to.ensures.row
    (c.move_sum.ensures.moved (train_row (train_owner_place owner))
    (omega (arith, train_row_low (train_owner_place owner), c.told-balances)) moderate)
