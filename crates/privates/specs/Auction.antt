-- An auction among those who bid on a private. The greatest limit wins, and among equal limits the
-- higher bid. The price is the larger of the highest bid and of the lesser of the winner's limit
-- and the second limit plus 5.
use Rattle.std.specs.Prelude.{◌≡◌, ◌≢◌, ◌⊎◌, ℤ, pos, ◌+ℤ◌, ◌≤ℤ◌, ◌≤◌, length, Bool, ◌||◌, ◌&&◌, if◌then◌else◌, List, []}
use Rattle.std.specs.Prelude.{◌∷◌, map, Option, Some, None, unwrap_or}
use Rattle.std.specs.Int.{int_max, int_min}
use Rattle.std.specs.Ordering.{int_eq}
use Rattle.std.specs.Int.Signed.{lt_z}
use Rattle.tables.specs.declared.seat.Seat.{Seat}

-- a bidder: the seat, its bid and its limit, in dollars
abbrev pub Bidder : Type 0
Bidder = Seat × ℤ × ℤ

-- what a bidder bids
abbrev pub bid_by : Bidder → ℤ
bid_by bidder = bidder.1

-- the limit of a bidder
abbrev pub limit_by : Bidder → ℤ
limit_by bidder = bidder.2

-- a bidder beats another by a greater limit, or by the higher bid if the limits are equal
abbrev pub beats : Bidder → Bidder → Bool
beats one other =
    lt_z (limit_by other) (limit_by one) || (int_eq (limit_by other) (limit_by one) && lt_z (bid_by other) (bid_by one))

-- who of two is ahead
abbrev pub ahead : Bidder → Bidder → Bidder
ahead one other = if beats other one then other else one

-- the winner among a bidder and others
abbrev pub winner_among : Bidder → List Bidder → Bidder
winner_among first [] = first
winner_among first (other ∷ others) = winner_among (ahead first other) others

-- the greatest of a sum and others
abbrev pub greatest_from : ℤ → List ℤ → ℤ
greatest_from first [] = first
greatest_from first (sum ∷ sums) = greatest_from (int_max first sum) sums

-- the highest bid of a bidder and others
abbrev pub highest_bid : Bidder → List Bidder → ℤ
highest_bid first others = greatest_from (bid_by first) (map bid_by others)

-- the greater of a sum, if there is one, and another
abbrev pub greater_of : Option ℤ → ℤ → ℤ
greater_of None other = other
greater_of (Some one) other = int_max one other

-- the greatest limit so far of the bidders other than the winner, who is known by the bid, with one
-- more bidder
abbrev pub with_limit : Bidder → Option ℤ → Bidder → Option ℤ
with_limit winner second bidder =
    if int_eq (bid_by bidder) (bid_by winner) then second else Some (greater_of second (limit_by bidder))

-- the greatest limit so far of the bidders other than the winner, with more bidders
abbrev pub with_limits : Bidder → Option ℤ → List Bidder → Option ℤ
with_limits winner second [] = second
with_limits winner second (bidder ∷ bidders) = with_limits winner (with_limit winner second bidder) bidders

-- the second limit: the greatest of those of the bidders other than the winner; without another it
-- is 0
abbrev pub second_limit : Bidder → List Bidder → ℤ
second_limit winner bidders = unwrap_or (with_limits winner None bidders) (pos 0)

-- what the winner pays, among a bidder and others
abbrev pub price_among : Bidder → Bidder → List Bidder → ℤ
price_among winner first others =
    int_max (highest_bid first others) (int_min (limit_by winner) (second_limit winner (first ∷ others) +ℤ pos 5))

-- who buys and for how much
abbrev pub auction_of : List Bidder → Seat × ℤ
auction_of [] = (record { 0 = 0 }, pos 0)
auction_of (first ∷ others) = let winner = winner_among first others in (winner.0, price_among winner first others)

-- this holds of each of some bidders
abbrev pub EachBidder : (Bidder → Type 0) → List Bidder → Type 0
EachBidder holds [] = Unit {0}
EachBidder holds (bidder ∷ bidders) = holds bidder × EachBidder holds bidders

-- the bids differ
abbrev pub BidsDiffer : List Bidder → Type 0
BidsDiffer [] = Unit {0}
BidsDiffer (bidder ∷ bidders) = EachBidder (λ other. bid_by other ≢ bid_by bidder) bidders × BidsDiffer bidders

-- no limit is under its bid
abbrev pub LimitsHold : List Bidder → Type 0
LimitsHold bidders = EachBidder (λ bidder. bid_by bidder ≤ℤ limit_by bidder) bidders

-- a bidder is one of these
abbrev pub IsAmong : List Bidder → Bidder → Type 0
IsAmong [] one = ⊥
IsAmong (bidder ∷ bidders) one = (bidder ≡ one) ⊎ IsAmong bidders one

-- a bidder's limit is no less than another's, and if they are equal the bid is no lower
pub record IsAhead (winner other : Bidder) : Type 0 where
  pub limit : limit_by other ≤ℤ limit_by winner
  pub bid : limit_by other ≡ limit_by winner → bid_by other ≤ℤ bid_by winner

-- others are these bidders without one of them
abbrev pub AreOthers : List Bidder → Bidder → List Bidder → Type 0
AreOthers [] one others = ⊥
AreOthers (bidder ∷ bidders) one others =
    ((bidder ≡ one) × (others ≡ bidders)) ⊎ ((rest : List Bidder) × (others ≡ bidder ∷ rest)
    × AreOthers bidders one rest)

-- a sum is one of these
abbrev pub IsOneOf : List ℤ → ℤ → Type 0
IsOneOf [] one = ⊥
IsOneOf (sum ∷ sums) one = (sum ≡ one) ⊎ IsOneOf sums one

-- none of these sums is over one
abbrev pub NoneIsOver : List ℤ → ℤ → Type 0
NoneIsOver [] one = Unit {0}
NoneIsOver (sum ∷ sums) one = (sum ≤ℤ one) × NoneIsOver sums one

-- a sum is the greatest of these
pub record IsGreatest (sums : List ℤ) (greatest : ℤ) : Type 0 where
  pub is_one : IsOneOf sums greatest
  pub none_over : NoneIsOver sums greatest

-- An auction is won by a bidder who is ahead of all. The price is the larger of the highest bid and
-- of the lesser of the winner's limit and the greatest limit of the others plus 5. So it is within
-- the winner's limit, and under no bid.
pub record IsWon (bidders : List Bidder) (won : Seat × ℤ) : Type 0 where
  pub winner : Bidder
  pub bids : IsAmong bidders winner
  pub buys : won.0 ≡ winner.0
  pub ahead_of_all : EachBidder (λ other. IsAhead winner other) bidders
  pub others : List Bidder
  pub are_others : AreOthers bidders winner others
  pub highest : ℤ
  pub is_highest : IsGreatest (map bid_by bidders) highest
  pub second : ℤ
  pub is_second : IsGreatest (map limit_by others) second
  pub price : won.1 ≡ int_max highest (int_min (limit_by winner) (second +ℤ pos 5))
  pub within_limit : won.1 ≤ℤ limit_by winner
  pub at_least_each_bid : EachBidder (λ other. bid_by other ≤ℤ won.1) bidders

-- an auction of two bidders or more, whose bids differ and of whom no limit is under its bid, is
-- won
abbrev pub AuctionIsWon : Type 0
AuctionIsWon =
    (bidders : List Bidder) → 2 ≤ length bidders → BidsDiffer bidders → LimitsHold bidders
    → IsWon bidders (auction_of bidders)
