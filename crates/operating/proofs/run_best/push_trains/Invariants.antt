use Rattle.std.proofs.Common.{◌≡◌, ◌++◌, replicate}
use Rattle.operating.proofs.run_best.push_trains.Given as goal

-- this many trains of the kind are after those that were there
abbrev pub invariant-loop : goal.invariant-loop
invariant-loop l = l.trains.items ≡ l.fn.trains.items ++ replicate l.counter l.kind
