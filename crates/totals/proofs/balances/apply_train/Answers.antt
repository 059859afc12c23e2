use Rattle.std.proofs.Common.{arith}
use Rattle.totals.proofs.BalanceTables.{train_entry_low, train_moved_on}
use Rattle.totals.specs.Totals.{train_entry}
use Rattle.totals.proofs.balances.apply_train.Goals as goal

pub returns-in-Some : goal.returns-in-Some
returns-in-Some c = λ place kind moderate.
    train_moved_on c.in-Some.train _ place kind _ _ _ _ c.in-Some.ensures c.entry_of_train-from.ensures.entry
    c.entry_of_train-to.ensures.entry
    (c.move_sum.ensures.moved (train_entry place kind) (omega (arith, train_entry_low place kind, c.told-balances))
    moderate)
