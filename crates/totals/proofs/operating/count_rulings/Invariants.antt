use Rattle.std.proofs.Common.{◌≡◌, ◌≤◌, take}
use Rattle.std.specs.List.{fold}
use Rattle.totals.specs.Operating.{rulings_then}
use Rattle.totals.proofs.operating.count_rulings.Given as goal

-- the count is that of the events so far
abbrev pub invariant-loop-event : goal.invariant-loop-event
invariant-loop-event l =
    (l.count ≡ fold (rulings_then l.seat) 0 (take l.event-index l.events)) × (l.count ≤ l.event-index)
