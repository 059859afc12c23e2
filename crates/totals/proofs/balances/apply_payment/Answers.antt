use Rattle.std.proofs.Common.{arith}
use Rattle.totals.proofs.BalanceTables.{payment_moved}
use Rattle.totals.specs.Totals.{party_entry}
use Rattle.totals.proofs.balances.apply_payment.Goals as goal

pub returns-in-Some-clause-moved : goal.returns-in-Some-clause-moved
returns-in-Some-clause-moved c = λ party has moderate.
    payment_moved c.in-Some.payment _ party _ _ _ _ c.in-Some.ensures c.entry_of_party-from.ensures
    c.entry_of_party-to.ensures
    (c.move_sum.ensures.moved (party_entry party) (omega (arith, has, c.told-balances)) moderate)
