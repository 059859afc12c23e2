use Rattle.std.proofs.Common.{◌≡◌, drop}
use Rattle.totals.specs.LookBack.{first_unsold, cheapest_in, is_sold_in}
use Rattle.totals.proofs.owners.Owners.cheapest_unsold.Given as goal

abbrev pub invariant-loop-private : goal.invariant-loop-private
invariant-loop-private l = cheapest_in l.self ≡ first_unsold (is_sold_in l.self) (drop l.private-index l.private-items)
