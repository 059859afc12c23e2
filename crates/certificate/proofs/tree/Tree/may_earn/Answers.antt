-- The table of values has the reached stops.
use Rattle.certificate.specs.Walking.{reached_in}
use Rattle.certificate.proofs.tree.Tree.may_earn.Goals as goal

pub returns : goal.returns
returns c = λ position stops tree seen. c.most_left.ensures.exact position (reached_in c.args.self.now) stops
    tree.ranking seen.1
