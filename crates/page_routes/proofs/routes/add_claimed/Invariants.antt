use Rattle.std.proofs.Common.{◌≡◌, ◌++◌, map, take}
use Rattle.page_routes.specs.ShownRuns.{all_shown, claimed_by}
use Rattle.page_routes.proofs.routes.add_claimed.Given as goal

-- the runs so far are added
abbrev pub invariant-loop-claimed : goal.invariant-loop-claimed
invariant-loop-claimed l =
    all_shown l.routes.items
    ≡ all_shown l.fn.routes.items ++ map (claimed_by l.company) (take l.claimed-index l.runs)
