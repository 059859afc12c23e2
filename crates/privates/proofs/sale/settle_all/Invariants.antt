use Rattle.std.proofs.Common.{◌≡◌}
use Rattle.privates.specs.Sale.{settle_auctions}
use Rattle.privates.specs.Underway.{IsUnderway}
use Rattle.tables.specs.Steps.{iterate}
use Rattle.totals.specs.LookBack.{with_events}
use Rattle.privates.proofs.sale.settle_all.Given as goal

-- this many steps have led here
abbrev pub invariant-loop-private : goal.invariant-loop-private
invariant-loop-private l = record {
  after : l.history ≡ with_events l.fn.history
      (iterate (settle_auctions l.fn.history.seats) l._private-index l.fn.history.events);
  underway : IsUnderway l.history;
}
