use Rattle.std.proofs.Common.{◌≡◌, take, false}
use Rattle.std.specs.List.{fold}
use Rattle.page_ahead.specs.Runners.{kept_then}
use Rattle.page_ahead.proofs.runner_rows.is_kept.Given as goal

-- whether the company kept what it last earned by the events so far
abbrev pub invariant-loop-event : goal.invariant-loop-event
invariant-loop-event l = l.kept ≡ fold (kept_then l.company) false (take l.event-index l.events)
