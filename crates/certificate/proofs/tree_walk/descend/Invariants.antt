-- The nodes before are split, and their trains are to set out.
use Rattle.std.proofs.Common.{◌≤◌, ◌-◌, List, [], ◌∷◌, length}
use Rattle.reach.specs.Position.{Position}
use Rattle.legal_runs.specs.Set.{TrainRun}
use Rattle.certificate.specs.Walking.{LeavesOver, IsBetweenRuns, node_from, set_outs, trains_of_tree}
use Rattle.certificate.proofs.tree_walk.descend.Given as goal

abbrev pub invariant-loop-place : goal.invariant-loop-place
invariant-loop-place g l =
    (position : Position) (assigned : List TrainRun) → IsBetweenRuns position l.tree l.fn.value assigned
    → l.fn.first ≤ length (trains_of_tree l.tree) →
    LeavesOver g.D.Decider.decides position l.tree l.fn.decider (node_from l.tree assigned l.fn.first ∷ [])
    l.decider (node_from l.tree assigned l.place ∷ set_outs position l.tree assigned l.fn.first (l.place - l.fn.first))
