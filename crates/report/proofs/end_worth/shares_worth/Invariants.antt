use Rattle.std.proofs.Common.{◌≡◌, ◌*◌, ◌^◌, ◌≤◌, take, sum_by}
use Rattle.report.specs.EndWorth.{worth_of_shares}
use Rattle.tables.specs.Roster.{companies}
use Rattle.report.proofs.end_worth.shares_worth.Given as goal

-- the companies so far
abbrev pub invariant-loop-company : goal.invariant-loop-company
invariant-loop-company l =
    (l.company-items ≡ companies)
    × (l.sum ≡ sum_by (worth_of_shares l.view.events l.seat) (take l.company-index l.company-items))
    × (l.sum ≤ 2 ^ 109 * l.company-index)
