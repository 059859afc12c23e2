use Rattle.std.proofs.Common.{arith}
use Rattle.totals.proofs.BalanceTables.{transfer_moved}
use Rattle.totals.specs.Totals.{shares_entry}
use Rattle.totals.proofs.balances.apply_transfer.Goals as goal
use Rattle.tables.proofs.Companies.{company_low}

pub returns-in-Some-clause-moved : goal.returns-in-Some-clause-moved
returns-in-Some-clause-moved c = λ company place has moderate.
    transfer_moved c.in-Some.transfer _ company place _ _ _ _ _ c.in-Some.ensures c.entry_of_shares-from.ensures
    c.entry_of_shares-to.ensures c.from.ensures
    (c.move_sum.ensures.moved (shares_entry company place) (omega (arith, has, company_low company, c.told-balances))
    moderate)
