use Rattle.std.proofs.Common.{◌≡◌}
use Rattle.purchases.proofs.PhaseLemmas.{HaveRusted}
use Rattle.purchases.specs.Phases.{with_one_rusted}
use Rattle.purchases.proofs.phases.rust_trains_of.Given as goal
use Rattle.tables.specs.Steps.{iterate}

-- this many have rusted
abbrev pub invariant-loop : goal.invariant-loop
invariant-loop l = record {
  so_far : l.history ≡ iterate (with_one_rusted l.owner l.kind) l.counter l.fn.history;
  rusted : HaveRusted l.owner l.kind l.counter l.fn.history l.history;
}
