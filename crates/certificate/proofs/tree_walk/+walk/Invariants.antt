-- Each further border that is crossed was not. A run that reaches a stop came over a border.
use Rattle.std.proofs.Common.{◌≡◌, ◌+◌, ◌-◌, ◌*◌, ◌<◌, ◌≤◌, false, not, count_by, List, [], ◌∷◌, length, drop}
use Rattle.std.proofs.Common.{replicate}
use Rattle.map_tables.specs.declared.place.Stop.{Stop}
use Rattle.reach.specs.Position.{links_of}
use Rattle.reach.specs.Walk.{entered_at}
use Rattle.reach.specs.declared.walk.WalkStep.{WalkStep}
use Rattle.legal_runs.specs.Set.{TrainRun}
use Rattle.certificate.specs.Tree.{for_each, goes_over, run_borders, setting_out, taken_borders, with_steps, steps_at}
use Rattle.certificate.specs.Tree.{steps_by, steps_from}
use Rattle.certificate.specs.Walking.{AreCrossed, Continues, LeavesOver, IsOnRun, IsBetweenRuns, may_take, node_at}
use Rattle.certificate.specs.Walking.{node_from, reached_in, set_outs, trains_of_tree}
use Rattle.certificate.proofs.Walking.{end_rank}
use Rattle.certificate.proofs.tree_walk.+walk.Given as goal

abbrev pub decreases-choose : goal.decreases-choose
decreases-choose g l = 100 * count_by not l.used.now + 17

abbrev pub decreases-set_out : goal.decreases-set_out
decreases-set_out g l = 100 * count_by not l.used.now + 16

abbrev pub decreases-leave : goal.decreases-leave
decreases-leave g l = 100 * count_by not l.used.now + 15

abbrev pub decreases-follow : goal.decreases-follow
decreases-follow g l = 100 * count_by not l.used.now + end_rank l.at.end + 14

abbrev pub decreases-take : goal.decreases-take
decreases-take g l = 100 * count_by not l.used.now + end_rank l.at.end + 13

abbrev pub decreases-arrive : goal.decreases-arrive
decreases-arrive g l = 100 * count_by not l.used.now + 21

abbrev pub decreases-cross : goal.decreases-cross
decreases-cross g l = 100 * count_by not l.used.now + 12

abbrev pub decreases-at_border : goal.decreases-at_border
decreases-at_border g l = 100 * count_by not l.used.now + 70

abbrev pub decreases-at_stop : goal.decreases-at_stop
decreases-at_stop g l = 100 * count_by not l.used.now + 20

abbrev pub decreases-pass : goal.decreases-pass
decreases-pass g l = 100 * count_by not l.used.now + 16

abbrev pub decreases-choose-trains : goal.decreases-choose-trains
decreases-choose-trains g l = l.place

abbrev pub invariant-choose-trains : goal.invariant-choose-trains
invariant-choose-trains g l =
    (l.used ≡ l.fn.used)
    × ((assigned : List TrainRun) → IsBetweenRuns (g.N.Network.position l.network) l.tree l.fn.value assigned
    → AreCrossed l.fn.used (run_borders assigned) →
    l.fn.first ≤ length (trains_of_tree l.tree) →
    (l.place ≤ length (trains_of_tree l.tree))
    × LeavesOver g.D.Decider.decides (g.N.Network.position l.network) l.tree l.fn.decider
    (node_from l.tree assigned l.fn.first ∷ [])
    l.decider (set_outs (g.N.Network.position l.network) l.tree assigned l.fn.first (l.place - l.fn.first)))

abbrev pub invariant-set_out-loop-stop : goal.invariant-set_out-loop-stop
invariant-set_out-loop-stop g l =
    (l.used ≡ l.fn.used) × (l.seen ≡ replicate 186 false)
    × ((assigned : List TrainRun) → IsBetweenRuns (g.N.Network.position l.network) l.tree l.fn.value assigned
    → AreCrossed l.fn.used (run_borders assigned) →
    l.fn.place < length (trains_of_tree l.tree) →
    LeavesOver g.D.Decider.decides (g.N.Network.position l.network) l.tree l.fn.decider
    (setting_out (g.N.Network.position l.network) l.tree.company (reached_in l.tree)
    (node_from l.tree assigned l.fn.place)) l.decider
    (with_steps (goes_over (taken_borders (node_from l.tree assigned l.fn.place)))
    (node_from l.tree assigned l.fn.place) (for_each (steps_from (g.N.Network.position l.network))
    (drop l.stop-index l.stop-items))))

abbrev pub invariant-follow-loop-ends : goal.invariant-follow-loop-ends
invariant-follow-loop-ends g l =
    (l.used ≡ l.fn.used) × (l.seen ≡ l.fn.seen)
    × ((assigned : List TrainRun) (steps : List WalkStep) (stops : List Stop) →
    IsOnRun (g.N.Network.position l.network) l.tree l.begun l.fn.used l.fn.seen assigned steps stops →
    ((step : WalkStep) → entered_at step ≡ l.fn.at → Continues steps stops step) →
    LeavesOver g.D.Decider.decides (g.N.Network.position l.network) l.tree l.fn.decider
    (with_steps (may_take (reached_in l.tree) (node_at l.tree l.begun assigned steps) l.fn.at.end)
    (node_at l.tree l.begun assigned steps) (steps_at (g.N.Network.position l.network) l.fn.at.hex l.fn.at.end))
    l.decider
    (with_steps (may_take (reached_in l.tree) (node_at l.tree l.begun assigned steps) l.fn.at.end)
    (node_at l.tree l.begun assigned steps) (for_each (steps_by l.fn.at.end)
    (drop l.ends-index (links_of (g.N.Network.position l.network) l.fn.at.hex)))))
