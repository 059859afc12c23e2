use Rattle.privates.proofs.Sales.{sold_underway}
use Rattle.privates.proofs.sale.sell_alone.Goals as goal

pub returns-clause-underway : goal.returns-clause-underway
returns-clause-underway c = sold_underway c.args.history.now c.append.new.self c.args.private c.args.buyer
    c.args.price c.requires.may c.requires.at_table c.in_ok-append.ensures.ok c.requires.underway
