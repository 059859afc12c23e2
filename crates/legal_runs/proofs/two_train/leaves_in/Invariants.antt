-- No run leaves its first stop by a link before the next one.
use Rattle.std.proofs.Common.{take}
use Rattle.reach.specs.Position.{IsAmong, links_of}
use Rattle.reach.specs.declared.walk.WalkStep.{WalkStep}
use Rattle.legal_runs.specs.TwoTrain.{LeavesToken}
use Rattle.legal_runs.proofs.two_train.leaves_in.Given as goal

abbrev pub invariant-loop-link : goal.invariant-loop-link
invariant-loop-link g l =
    (step : WalkStep) → IsAmong step.link (take l.link-index (links_of (g.N.Network.position l.network) l.fn.hex))
    → LeavesToken (g.N.Network.position l.network) l.company step → ⊥
