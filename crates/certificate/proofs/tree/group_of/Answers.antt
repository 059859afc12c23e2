-- The table gives what a train that has not begun may earn.
use Rattle.certificate.proofs.tree.group_of.Goals as goal

pub returns-clause-may_earn : goal.returns-clause-may_earn
returns-clause-may_earn c = c.may_begin.ensures.exact
