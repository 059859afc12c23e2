use Rattle.std.proofs.Common.{◌≡◌, None, take, true}
use Rattle.std.specs.List.{fold}
use Rattle.desk_check.specs.Replaced.{turning_then}
use Rattle.desk_check.proofs.check_late.turning_head.Given as goal

-- where the game turns by the heads so far
abbrev pub invariant-loop-head : goal.invariant-loop-head
invariant-loop-head l =
    l.turning
    ≡ fold (turning_then l.from l.heads l.rounds) (record { head = None; is_fresh = true })
    (take l.head-index l.heads.heads.items)
