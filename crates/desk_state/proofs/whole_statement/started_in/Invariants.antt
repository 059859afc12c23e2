use Rattle.std.proofs.Common.{◌≡◌, take}
use Rattle.std.specs.List.{flat_map}
use Rattle.desk_state.specs.Statement.{started_one}
use Rattle.desk_state.proofs.whole_statement.started_in.Given as goal

-- those of the companies so far that are started
abbrev pub invariant-loop-company : goal.invariant-loop-company
invariant-loop-company l =
    l.started.items ≡ flat_map (started_one l.history.events) (take l.company-index l.order)
