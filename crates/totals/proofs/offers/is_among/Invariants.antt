use Rattle.std.proofs.Common.{◌≡◌, false, take}
use Rattle.totals.specs.Offers.{is_among}
use Rattle.totals.proofs.offers.is_among.Given as goal

-- the offer is not among those that were looked at
abbrev pub invariant-loop-offer : goal.invariant-loop-offer
invariant-loop-offer l = is_among l.seat l.sale (take l.offer-index l.offers) ≡ false
