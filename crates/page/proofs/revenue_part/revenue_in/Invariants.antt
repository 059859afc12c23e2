use Rattle.std.proofs.Common.{◌≡◌, ◌*◌, ◌^◌, ◌≤◌, take, false}
use Rattle.std.specs.List.{fold}
use Rattle.page.specs.Revenue.{revenue_then}
use Rattle.page.proofs.revenue_part.revenue_in.Given as goal

-- what the company earned by the events so far
abbrev pub invariant-loop-event : goal.invariant-loop-event
invariant-loop-event l =
    (l.revenue
    ≡ fold (revenue_then l.company) (record { has_operated = false; dollars = 0; is_withheld = false })
    (take l.event-index l.events))
    × (l.revenue.dollars ≤ 2 ^ 32 * l.event-index)
