-- those of the heads so far
use Rattle.std.proofs.Common.{◌≡◌, take}
use Rattle.std.specs.List.{flat_map}
use Rattle.desk_trials.specs.Trials.{head_if}
use Rattle.desk_trials.proofs.trials.sheets_among.Given as goal

abbrev pub invariant-loop-head : goal.invariant-loop-head
invariant-loop-head l =
    l.tried.items ≡ flat_map (head_if l.heads l.round l.from) (take l.head-index l.among)
