-- The search ends: each call has fewer trains left, or fewer stops for the run begun. What has been
-- tried grows with each token and each leg.
use Rattle.std.proofs.Common.{◌+◌, ◌-◌, ◌*◌, drop, length}
use Rattle.search_task.specs.Legs.{IsListed}
use Rattle.best_run.specs.Moves.{begun, between, partial, turned_back}
use Rattle.search_task.specs.Spots.{node_at, stop_in}
use Rattle.best_run.specs.Moves.{TriesLegs}
use Rattle.best_run.proofs.Along.{AnyLeg, IsLater}
use Rattle.best_run.proofs.Homes.{TriesHomes}
use Rattle.best_run.proofs.Places.{one_if}
use Rattle.best_run.proofs.search.+explore.Given as goal
use Rattle.legal_runs.specs.Law.{unused}

abbrev pub decreases-assign_next : goal.decreases-assign_next
decreases-assign_next l = 6000 * (length l.bounded.now.task.now.trains.items - l.assigned.now.next)

abbrev pub decreases-begin_runs : goal.decreases-begin_runs
decreases-begin_runs l = 6000 * (length l.bounded.now.task.now.trains.items - l.assigned.now.next) - 1

abbrev pub decreases-begin_at : goal.decreases-begin_at
decreases-begin_at l = 6000 * (length l.bounded.now.task.now.trains.items - l.assigned.now.next) - 2

abbrev pub decreases-take : goal.decreases-take
decreases-take l = 6000 * (length l.bounded.now.task.now.trains.items - l.assigned.now.next - 1)
    + 6 * (3 * unused l.assigned.now.used + one_if (stop_in (node_at l.bounded.now.task.now l.run.now.head))) + 1

abbrev pub decreases-extend : goal.decreases-extend
decreases-extend l = 6000 * (length l.bounded.now.task.now.trains.items - l.assigned.now.next - 1)
    + 6 * (3 * unused l.assigned.now.used + one_if (stop_in (node_at l.bounded.now.task.now l.run.now.head))) + 5

abbrev pub decreases-extend_with_memo : goal.decreases-extend_with_memo
decreases-extend_with_memo l = 6000 * (length l.bounded.now.task.now.trains.items - l.assigned.now.next - 1)
    + 6 * (3 * unused l.assigned.now.used + one_if (stop_in (node_at l.bounded.now.task.now l.run.now.head))) + 4

abbrev pub decreases-extend_without_memo : goal.decreases-extend_without_memo
decreases-extend_without_memo l = 6000 * (length l.bounded.now.task.now.trains.items - l.assigned.now.next - 1)
    + 6 * (3 * unused l.assigned.now.used + one_if (stop_in (node_at l.bounded.now.task.now l.run.now.head))) + 3

abbrev pub decreases-go_on : goal.decreases-go_on
decreases-go_on l = 6000 * (length l.bounded.now.task.now.trains.items - l.assigned.now.next - 1)
    + 6 * (3 * unused l.assigned.now.used + one_if (stop_in (node_at l.bounded.now.task.now l.run.now.head))) + 2

abbrev pub invariant-begin_runs-loop-place : goal.invariant-begin_runs-loop-place
invariant-begin_runs-loop-place l =
    TriesHomes l.task l.assigned (drop l.place l.task.homes.items) l.before l.initial.best l.best

abbrev pub invariant-begin_at-loop-index : goal.invariant-begin_at-loop-index
invariant-begin_at-loop-index l =
    TriesLegs l.bounded.task.now (between l.assigned) l.assigned (λ leg. begun l.bounded.task.now l.assigned l.fn.stop leg.first)
    (λ leg. IsListed l.from.legs.items l.index leg × AnyLeg leg) l.initial.best l.best

abbrev pub invariant-go_on-loop-index : goal.invariant-go_on-loop-index
invariant-go_on-loop-index l =
    TriesLegs l.bounded.task.now (partial l.assigned l.run) l.assigned (λ leg. l.run)
    (λ leg. IsListed l.from.legs.items l.index leg × AnyLeg leg) l.initial.best l.best

abbrev pub decreases-turn_back : goal.decreases-turn_back
decreases-turn_back l = 6000 * (length l.bounded.now.task.now.trains.items - l.assigned.now.next - 1)
    + 6 * (3 * unused l.assigned.now.used + one_if (stop_in (node_at l.bounded.now.task.now l.run.now.head))) + 2

abbrev pub invariant-turn_back-loop-index : goal.invariant-turn_back-loop-index
invariant-turn_back-loop-index l =
    TriesLegs l.bounded.task.now (partial l.assigned l.run) l.assigned (λ leg. turned_back l.run)
    (λ leg. IsListed l.from.legs.items l.index leg × IsLater l.run leg) l.initial.best l.best
