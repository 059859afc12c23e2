use Rattle.privates.specs.UnderwayKept.{revenues_underway}
use Rattle.privates.proofs.closing.pay_revenues.Goals as goal

pub returns-clause-underway : goal.returns-clause-underway
returns-clause-underway c = revenues_underway c.args.history.now c.record_revenues.new.self
    c.in_ok-record_revenues.ensures.ok c.in_ok-record_revenues.ensures.sound c.requires
