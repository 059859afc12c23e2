-- The runs so far are before those that the marks give to the trains that are left; all of these
-- can be written in full.
use Rattle.std.proofs.Common.{◌≡◌, [], ◌++◌, drop, reverse}
use Rattle.std.specs.List.{AllByRecursion}
use Rattle.best_run.specs.MovePath.{CanBeClaimed, runs_of_marks, written}
use Rattle.best_run.proofs.claimed.claimed_runs.Given as goal

abbrev pub invariant-loop-kind : goal.invariant-loop-kind
invariant-loop-kind l =
    (l.runs ++ written (runs_of_marks (drop l.kind-index l.kinds) [] (reverse l.marks.items))
    ≡ written (runs_of_marks l.kinds [] (reverse l.initial.marks.items))) ×
    AllByRecursion CanBeClaimed (runs_of_marks (drop l.kind-index l.kinds) [] (reverse l.marks.items))
