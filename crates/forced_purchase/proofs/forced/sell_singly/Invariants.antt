-- This many times a share was sold, or none was to be.
use Rattle.std.proofs.Common.{◌≡◌}
use Rattle.forced_purchase.specs.Forced.{sold_further}
use Rattle.tables.specs.Steps.{iterate}
use Rattle.history.specs.Games.{IsGame}
use Rattle.forced_purchase.proofs.forced.sell_singly.Given as goal

abbrev pub invariant-loop : goal.invariant-loop
invariant-loop l = record {
  so_far : l.history ≡ iterate (sold_further l.by) l.counter l.fn.history;
  seats : l.history.seats ≡ l.fn.history.seats;
  game : IsGame l.history;
}
