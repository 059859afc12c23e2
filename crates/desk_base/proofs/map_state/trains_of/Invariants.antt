use Rattle.std.proofs.Common.{◌≡◌, [], take}
use Rattle.std.specs.List.{fold}
use Rattle.operating.specs.RunBest.{with_those_held}
use Rattle.desk_base.proofs.map_state.trains_of.Given as goal
use Rattle.tables.specs.Train.{kinds}

-- those of the kinds so far are there
abbrev pub invariant-loop-kind : goal.invariant-loop-kind
invariant-loop-kind l = l.trains.items ≡ fold (with_those_held l.view.events l.company) [] (take l.kind-index kinds)
