use Rattle.privates.proofs.BidLemmas.{bid_underway}
use Rattle.privates.proofs.bid.bid.Goals as goal

pub returns-clause-underway : goal.returns-clause-underway
returns-clause-underway c = bid_underway c.args.history.now c.append.new.self c.args.private c.args.seat c.args.amount
    c.requires.small c.requires.at_table c.requires.may c.in_ok-append.ensures.ok c.requires.underway
