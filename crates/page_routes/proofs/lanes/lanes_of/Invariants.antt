use Rattle.std.proofs.Common.{◌≡◌, take}
use Rattle.std.specs.List.{count_by}
use Rattle.page_routes.specs.Lanes.{crosses}
use Rattle.page_routes.proofs.lanes.lanes_of.Given as goal

-- so many of the runs so far cross it
abbrev pub invariant-loop-route : goal.invariant-loop-route
invariant-loop-route l = l.count ≡ count_by (crosses l.border) (take l.route-index l.routes)
