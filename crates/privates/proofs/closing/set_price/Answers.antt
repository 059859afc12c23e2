use Rattle.privates.proofs.Sales.{price_underway}
use Rattle.privates.proofs.closing.set_price.Goals as goal

pub returns-clause-underway : goal.returns-clause-underway
returns-clause-underway c = price_underway c.args.history.now c.append.new.self c.args.price c.requires.fallen
    c.requires.some c.in_ok-append.ensures.ok c.requires.underway
