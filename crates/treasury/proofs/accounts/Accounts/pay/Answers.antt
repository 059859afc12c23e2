use Rattle.totals.specs.LookBack.{same_party}
use Rattle.treasury.proofs.Sums.{paid_both, paid_fits}
use Rattle.treasury.proofs.accounts.Accounts.pay.Goals as goal

pub add-requires-2 : goal.add-requires-2
add-requires-2 c = λ has.
    paid_fits (same_party c.args.from c.args.to) _ _ c.args.sum c.requires.to_cash c.requires.sum c.ranges.sum
    (c.add.ensures c.args.to has)

pub returns-clause-paid : goal.returns-clause-paid
returns-clause-paid c =
    λ party has. paid_both (same_party c.args.from party) (same_party c.args.to party) _ _ _ c.args.sum c.requires.sum
    c.ranges.sum (c.add.ensures party has) (c.add-2.ensures party has)
