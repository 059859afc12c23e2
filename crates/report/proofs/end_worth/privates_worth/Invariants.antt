use Rattle.std.proofs.Common.{◌≡◌, ◌*◌, ◌≤◌, take, sum_by}
use Rattle.report.specs.EndWorth.{worth_of_private}
use Rattle.tables.specs.Roster.{privates}
use Rattle.report.proofs.end_worth.privates_worth.Given as goal

-- the privates so far
abbrev pub invariant-loop-private : goal.invariant-loop-private
invariant-loop-private l =
    (l.private-items ≡ privates)
    × (l.sum ≡ sum_by (worth_of_private l.view.events l.seat) (take l.private-index l.private-items))
    × (l.sum ≤ 220 * l.private-index)
