-- No run leaves its first stop by a link of the hexes before the next one.
use Rattle.std.proofs.Common.{◌<◌}
use Rattle.map_tables.specs.Hex.{index_of}
use Rattle.reach.specs.Walk.{IsTrack}
use Rattle.reach.specs.declared.walk.WalkStep.{WalkStep}
use Rattle.legal_runs.specs.TwoTrain.{LeavesToken}
use Rattle.legal_runs.proofs.two_train.can_run.Given as goal

abbrev pub invariant-loop-index : goal.invariant-loop-index
invariant-loop-index g l =
    (step : WalkStep) → index_of step.link.hex < l.index → IsTrack (g.N.Network.position l.network) step
    → LeavesToken (g.N.Network.position l.network) l.company step → ⊥
