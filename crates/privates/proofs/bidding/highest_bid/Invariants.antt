use Rattle.std.proofs.Common.{◌≡◌, drop, map}
use Rattle.privates.specs.Auction.{bid_by, greatest_from}
use Rattle.privates.proofs.bidding.highest_bid.Given as goal

-- the highest so far leads, with the bids that are left, where the first leads with all
abbrev pub invariant-loop-other : goal.invariant-loop-other
invariant-loop-other l =
    greatest_from l.highest (map bid_by (drop l.other-index l.others))
    ≡ greatest_from (bid_by l.fn.first) (map bid_by l.others)
