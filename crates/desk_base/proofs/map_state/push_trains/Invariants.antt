use Rattle.std.proofs.Common.{◌≡◌, ◌++◌, replicate}
use Rattle.desk_base.proofs.map_state.push_trains.Given as goal

-- this many trains of the kind are behind those that were there
abbrev pub invariant-loop : goal.invariant-loop
invariant-loop l = l.trains.items ≡ l.fn.trains.items ++ replicate l.counter l.kind
