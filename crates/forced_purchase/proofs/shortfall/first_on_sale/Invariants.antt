-- The first of all that is for sale is the first of those that are still to come.
use Rattle.std.proofs.Common.{◌≡◌, drop}
use Rattle.forced_purchase.specs.Shortfall.{first_on_sale}
use Rattle.forced_purchase.proofs.shortfall.first_on_sale.Given as goal

abbrev pub invariant-loop-kind : goal.invariant-loop-kind
invariant-loop-kind l =
    first_on_sale l.view.events (drop l.kind-index l.kinds) ≡ first_on_sale l.view.events l.kinds
