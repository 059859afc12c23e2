use Rattle.std.proofs.Common.{◌≡◌, ◌++◌, take}
use Rattle.std.specs.List.{flat_map}
use Rattle.report.specs.Statement.{codes_of_trains}
use Rattle.report.proofs.statement.push_trains.Given as goal
use Rattle.tables.specs.Train.{kinds}

-- the kinds so far
abbrev pub invariant-loop-kind : goal.invariant-loop-kind
invariant-loop-kind l =
    l.out.items ≡ l.fn.out.items ++ flat_map (λ kind. codes_of_trains l.view.events l.company kind)
    (take l.kind-index kinds)
