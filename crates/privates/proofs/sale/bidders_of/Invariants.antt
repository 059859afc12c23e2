use Rattle.std.proofs.Common.{◌≡◌, map, take}
use Rattle.privates.specs.Sale.{bidder_of}
use Rattle.privates.proofs.sale.bidders_of.Given as goal

abbrev pub invariant-loop-bid : goal.invariant-loop-bid
invariant-loop-bid l =
    l.bidders.items ≡ map (bidder_of l.view.seats l.view.events l.private) (take l.bid-index l.bids)
