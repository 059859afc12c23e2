use Rattle.std.proofs.Common.{◌≡◌, None, take}
use Rattle.std.specs.List.{fold}
use Rattle.desk_why.specs.Done.{done_then}
use Rattle.desk_why.proofs.done.last_done.Given as goal

-- what the events so far say that the company has done last
abbrev pub invariant-loop-event : goal.invariant-loop-event
invariant-loop-event l = l.done ≡ fold (done_then l.company) None (take l.event-index l.events)
