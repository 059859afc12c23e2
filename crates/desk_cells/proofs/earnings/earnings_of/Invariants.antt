use Rattle.std.proofs.Common.{◌≡◌, ◌*◌, ◌^◌, ◌≤◌, take, None, false}
use Rattle.std.specs.List.{fold}
use Rattle.desk_cells.specs.Earnings.{earnings_then}
use Rattle.desk_cells.proofs.earnings.earnings_of.Given as goal

-- what the company earned by the events so far
abbrev pub invariant-loop-event : goal.invariant-loop-event
invariant-loop-event l =
    (l.earnings
    ≡ fold (earnings_then l.company) (record { round = None; dollars = 0; now = None; has_operated = false })
    (take l.event-index l.events))
    × (l.earnings.dollars ≤ 2 ^ 32 * l.event-index)
