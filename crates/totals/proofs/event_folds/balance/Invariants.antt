use Rattle.std.proofs.Common.{◌≡◌, ◌+◌, ◌*◌, ◌^◌, ◌≤◌, take, pos, sum_by}
use Rattle.totals.proofs.event_folds.balance.Given as goal

abbrev pub invariant-loop-event : goal.invariant-loop-event
invariant-loop-event g l =
    let came_in = l.start + sum_by (g.A.Account.brings l.account) (take l.event-index l.events) in
    let went_out = sum_by (g.A.Account.takes l.account) (take l.event-index l.events) in
    (l.came_in ≡ pos came_in) × (l.went_out ≡ pos went_out) × (came_in ≤ 2 ^ 32 * (l.event-index + 1))
    × (went_out ≤ 2 ^ 32 * l.event-index)
