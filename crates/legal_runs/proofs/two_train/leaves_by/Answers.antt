-- A step by a link is one of two.
use Rattle.std.proofs.Common.{refl}
use Rattle.legal_runs.specs.TwoTrain.{LeavesToken}
use Rattle.legal_runs.proofs.TwoTrain.{by_turn}
use Rattle.legal_runs.proofs.two_train.leaves_by.Goals as goal

pub returns-then-leaves : goal.returns-then-leaves
returns-then-leaves g c = (λ yes. (_, refl, c.leaves.ensures.0 yes), λ found. c.if-leaves.true)

pub returns-else-leaves : goal.returns-else-leaves
returns-else-leaves g c = (
  λ yes. (_, refl, c.leaves-else-leaves.ensures.0 yes),
  λ found. by_turn (LeavesToken (g.N.Network.position c.args.network.now) c.args.company) c.args.link c.leaves.result
      c.leaves-else-leaves.result c.leaves.ensures c.leaves-else-leaves.ensures c.if-leaves.false found,
)
