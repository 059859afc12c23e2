use Rattle.std.proofs.Common.{◌≡◌, ◌++◌, take}
use Rattle.std.specs.List.{flat_map}
use Rattle.desk_check.specs.Replaced.{findings_of}
use Rattle.desk_check.proofs.check_late.add_replaced.Given as goal

-- what is added of the heads so far
abbrev pub invariant-loop-head : goal.invariant-loop-head
invariant-loop-head l =
    l.found.findings.items
    ≡ l.fn.found.findings.items
    ++ flat_map (findings_of l.fn.found.from l.heads l.rounds l.turn l.now) (take l.head-index l.heads.heads.items)
