use Rattle.std.proofs.Common.{◌≡◌, take, false}
use Rattle.std.specs.List.{list_any}
use Rattle.page_routes.specs.Lanes.{crosses_at}
use Rattle.page_routes.proofs.lanes.crosses.Given as goal

-- the run crosses it at no visit so far
abbrev pub invariant-loop-visit : goal.invariant-loop-visit
invariant-loop-visit l = list_any (crosses_at l.border) (take l.visit-index l.route.visits.items) ≡ false
