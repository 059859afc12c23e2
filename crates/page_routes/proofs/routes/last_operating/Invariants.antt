use Rattle.std.proofs.Common.{◌≡◌, None, take}
use Rattle.std.specs.List.{fold}
use Rattle.page_routes.specs.LastRuns.{operating_then}
use Rattle.page_routes.proofs.routes.last_operating.Given as goal

-- the operating round that began last by the events so far
abbrev pub invariant-loop-event : goal.invariant-loop-event
invariant-loop-event l = l.last ≡ fold operating_then None (take l.event-index l.events)
