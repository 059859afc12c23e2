use Rattle.std.proofs.Common.{◌≡◌, drop}
use Rattle.privates.specs.Auction.{winner_among}
use Rattle.privates.proofs.bidding.winner.Given as goal

-- who is ahead now wins among those that are left where the first wins among all
abbrev pub invariant-loop-other : goal.invariant-loop-other
invariant-loop-other l = winner_among l.winner (drop l.other-index l.others) ≡ winner_among l.fn.first l.others
