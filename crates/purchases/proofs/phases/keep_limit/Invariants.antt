use Rattle.std.proofs.Common.{◌≡◌}
use Rattle.history.specs.Sound.{IsSound}
use Rattle.purchases.specs.Discard.{with_next_discarded}
use Rattle.purchases.proofs.phases.keep_limit.Given as goal
use Rattle.tables.specs.Steps.{iterate}

-- this many are discarded
abbrev pub invariant-loop : goal.invariant-loop
invariant-loop l = record {
  so_far : l.history ≡ iterate (with_next_discarded l.company) l.counter l.fn.history;
  sound : IsSound l.history;
}
