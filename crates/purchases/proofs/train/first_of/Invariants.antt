use Rattle.std.proofs.Common.{◌≡◌, drop}
use Rattle.purchases.specs.Train.{first_left_of}
use Rattle.purchases.proofs.train.first_of.Given as goal

-- the first of all that is left is the first of those that are still to come
abbrev pub invariant-loop-kind : goal.invariant-loop-kind
invariant-loop-kind l =
    first_left_of l.view.events (drop l.kind-index l.kinds) ≡ first_left_of l.view.events l.kinds
