use Rattle.std.proofs.Common.{◌≡◌, drop}
use Rattle.purchases.specs.Discard.{first_held}
use Rattle.purchases.proofs.discard.first_held.Given as goal

-- the first of which there is a train is the first of those that are still to come
abbrev pub invariant-loop-kind : goal.invariant-loop-kind
invariant-loop-kind l =
    first_held l.view.events l.company l.kinds ≡ first_held l.view.events l.company (drop l.kind-index l.kinds)
