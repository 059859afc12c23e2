use Rattle.std.proofs.Common.{◌≡◌, take, false}
use Rattle.std.specs.List.{list_any}
use Rattle.page_routes.specs.Lanes.{same_border}
use Rattle.page_routes.proofs.lanes.is_among.Given as goal

-- none of the borders so far is it
abbrev pub invariant-loop-other : goal.invariant-loop-other
invariant-loop-other l = list_any (same_border l.border) (take l.other-index l.borders) ≡ false
