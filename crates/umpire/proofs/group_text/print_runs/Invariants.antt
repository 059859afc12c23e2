use Rattle.std.proofs.Common.{drop, ◌++◌, ◌≡◌}
use Rattle.std.specs.List.{flat_map}
use Rattle.umpire.specs.Written.{claim_line}
use Rattle.umpire.proofs.group_text.print_runs.Given as goal

-- the lines so far, and then those of the runs ahead
abbrev pub invariant-loop-claimed : goal.invariant-loop-claimed
invariant-loop-claimed l =
    l.text.items ++ flat_map claim_line (drop l.claimed-index l.runs) ≡ l.fn.text.items ++ flat_map claim_line l.runs
