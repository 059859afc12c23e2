use Rattle.std.proofs.Common.{◌≡◌, None, drop}
use Rattle.privates.specs.Auction.{with_limits}
use Rattle.privates.proofs.bidding.second_limit.Given as goal

-- the greatest so far leads, with the bidders that are left, where nothing leads with all
abbrev pub invariant-loop-bidder : goal.invariant-loop-bidder
invariant-loop-bidder l =
    with_limits l.winner l.second (drop l.bidder-index l.bidders) ≡ with_limits l.winner None l.bidders
