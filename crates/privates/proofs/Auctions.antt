-- The winner of an auction is ahead of all, and pays no more than the winner's limit and no less
-- than each bid.
use Rattle.std.proofs.Common.{◌≡◌, ℤ, pos, ◌+ℤ◌, ◌≤ℤ◌, Bool, true, false, ◌≤◌, List, [], ◌∷◌, length, map, Option, None}
use Rattle.std.proofs.Common.{unwrap_or, if◌then◌else◌, inl, inr, refl, sym, subst, arith}
use Rattle.std.specs.Int.{int_max, int_min}
use Rattle.std.proofs.lemmas.Int.{ints, clamps}
use Rattle.privates.proofs.Prices.{greatest_of_others, is_greatest, others_apart, others_than, some_other}
use Rattle.privates.proofs.Prices.{without_winner}
use Rattle.tables.specs.declared.seat.Seat.{Seat}
use Rattle.privates.specs.Auction.{Bidder, BidsDiffer, EachBidder, IsAhead, IsAmong, IsGreatest, IsWon, LimitsHold}
use Rattle.privates.specs.Auction.{ahead, auction_of, beats, bid_by, greatest_from, highest_bid, limit_by, second_limit}
use Rattle.privates.specs.Auction.{winner_among}

-- each bidder is ahead of itself
ahead_of_himself : (one : Bidder) → IsAhead one one
ahead_of_himself one = record { limit = omega (arith, ints); bid = λ same. omega (arith, ints) }

-- who is ahead of one who is ahead of another is ahead of that other
ahead_of_both : (one middle last : Bidder) → IsAhead one middle → IsAhead middle last → IsAhead one last
ahead_of_both one middle last before after =
    let first = before.limit in
    let second = after.limit in
    record {
      limit = omega (arith, ints);
      bid = λ same.
          let by_first = before.bid (omega (arith, ints)) in
          let by_second = after.bid (omega (arith, ints)) in
          omega (arith, ints);
    }

-- who is chosen of two is ahead of the one
ahead_of_one : (one other : Bidder) → IsAhead (ahead one other) one
ahead_of_one one other = record { limit = grind (arith, ints); bid = λ same. grind (arith, ints) }

-- and of the other
ahead_of_other : (one other : Bidder) → IsAhead (ahead one other) other
ahead_of_other one other = record { limit = grind (arith, ints); bid = λ same. grind (arith, ints) }

-- what holds of each bidder, where it follows from what holds of each
each_bidder : {P Q : Bidder → Type 0} → ((one : Bidder) → P one → Q one) → (bidders : List Bidder)
    → EachBidder P bidders → EachBidder Q bidders
each_bidder follows [] all = tt
each_bidder follows (one ∷ bidders) all = (follows one all.0, each_bidder follows bidders all.1)

-- the winner is ahead of the first bidder and of the others
winner_ahead : (first : Bidder) (others : List Bidder)
    → EachBidder (λ other. IsAhead (winner_among first others) other) (first ∷ others)
winner_ahead first [] = (ahead_of_himself first, tt)
winner_ahead first (other ∷ others) =
    let rest = winner_ahead (ahead first other) others in
    let winner : Bidder = winner_among (ahead first other) others in (
      ahead_of_both winner (ahead first other) first rest.0 (ahead_of_one first other),
      (ahead_of_both winner (ahead first other) other rest.0 (ahead_of_other first other), rest.1),
    )

-- who is chosen of two is one of them
chosen_of_two : (test : Bool) (one other winner : Bidder) (others : List Bidder)
    → (if test then other else one) ≡ winner → IsAmong (one ∷ other ∷ others) winner
chosen_of_two true one other winner others same = inr (inl same)
chosen_of_two false one other winner others same = inl same

-- the winner is one of the bidders
winner_bids : (first : Bidder) (others : List Bidder) → IsAmong (first ∷ others) (winner_among first others)
winner_bids first [] = inl refl
winner_bids first (other ∷ others) =
    elim (winner_bids (ahead first other) others) [
      | inl same ↦ chosen_of_two (beats other first) first other (winner_among (ahead first other) others) others same
      | inr rest ↦ inr (inr rest)
    ]

-- the highest bid is no more than what each bid is no more than
highest_within : (bound highest : ℤ) (others : List Bidder) → highest ≤ℤ bound
    → EachBidder (λ other. bid_by other ≤ℤ bound) others → greatest_from highest (map bid_by others) ≤ℤ bound
highest_within bound highest [] first rest = first
highest_within bound highest (other ∷ others) first rest =
    highest_within bound (int_max highest (bid_by other)) others (let next = rest.0 in omega (arith, ints, clamps))
    rest.1

-- the highest bid is no less than the first
highest_from_first : (highest : ℤ) (others : List Bidder) → highest ≤ℤ greatest_from highest (map bid_by others)
highest_from_first highest [] = omega (arith, ints)
highest_from_first highest (other ∷ others) =
    let rest = highest_from_first (int_max highest (bid_by other)) others in omega (arith, ints, clamps)

-- nor than any other
highest_from_each : (highest : ℤ) (others : List Bidder)
    → EachBidder (λ other. bid_by other ≤ℤ greatest_from highest (map bid_by others)) others
highest_from_each highest [] = tt
highest_from_each highest (other ∷ others) =
    let rest = highest_from_first (int_max highest (bid_by other)) others in
    (omega (arith, ints, clamps), highest_from_each (int_max highest (bid_by other)) others)

-- a bid is within the limit of one who is ahead, where it is within its own
bid_within : (winner other : Bidder) → IsAhead winner other → bid_by other ≤ℤ limit_by other
    → bid_by other ≤ℤ limit_by winner
bid_within winner other before holds = let limit = before.limit in omega (arith, ints)

-- each bid is within the limit of one who is ahead of all
bids_within : (winner : Bidder) (bidders : List Bidder) → EachBidder (λ other. IsAhead winner other) bidders
    → LimitsHold bidders → EachBidder (λ other. bid_by other ≤ℤ limit_by winner) bidders
bids_within winner [] before hold = tt
bids_within winner (other ∷ others) before hold =
    (bid_within winner other before.0 hold.0, bids_within winner others before.1 hold.1)

-- a price is within the winner's limit where the highest bid is
price_within : (highest limit second : ℤ) → highest ≤ℤ limit
    → int_max highest (int_min limit (second +ℤ pos 5)) ≤ℤ limit
price_within highest limit second within = omega (arith, ints, clamps)

-- a price is no less than the highest bid
price_from_highest : (highest limit second bid : ℤ) → bid ≤ℤ highest
    → bid ≤ℤ int_max highest (int_min limit (second +ℤ pos 5))
price_from_highest highest limit second bid within = omega (arith, ints, clamps)

-- one of some bidders wins, who is ahead of all, at a price within that bidder's limit and under no
-- bid
pub record WinsWithin (bidders : List Bidder) (won : Seat × ℤ) : Type 0 where
  pub winner : Bidder
  pub bids : IsAmong bidders winner
  pub buys : won.0 ≡ winner.0
  pub ahead_of_all : EachBidder (λ other. IsAhead winner other) bidders
  pub within_limit : won.1 ≤ℤ limit_by winner
  pub at_least_each_bid : EachBidder (λ other. bid_by other ≤ℤ won.1) bidders

-- so an auction is won
pub auction_won : (bidders : List Bidder) → 1 ≤ length bidders → LimitsHold bidders
    → WinsWithin bidders (auction_of bidders)
auction_won [] some hold = absurd (omega arith)
auction_won (first ∷ others) some hold =
    let winner : Bidder = winner_among first others in
    let before = winner_ahead first others in
    let within = bids_within winner (first ∷ others) before hold in
    let highest : ℤ = highest_bid first others in
    let second : ℤ = second_limit winner (first ∷ others) in
    record {
      winner = winner;
      bids = winner_bids first others;
      buys = refl;
      ahead_of_all = before;
      within_limit = price_within highest (limit_by winner) second
          (highest_within (limit_by winner) (bid_by first) others within.0 within.1);
      at_least_each_bid =
          each_bidder (λ (other : Bidder). price_from_highest highest (limit_by winner) second (bid_by other))
          (first ∷ others)
          (highest_from_first (bid_by first) others, highest_from_each (bid_by first) others);
    }

-- an auction is won at its price
pub won_at_price : (bidders : List Bidder) → 2 ≤ length bidders → BidsDiffer bidders → LimitsHold bidders
    → IsWon bidders (auction_of bidders)
unfolding auction_won
won_at_price [] two differ hold = absurd (omega arith)
won_at_price (first ∷ rest) two differ hold =
    let bidders : List Bidder = first ∷ rest in
    let winner : Bidder = winner_among first rest in
    let some : 1 ≤ length bidders = omega arith in
    let within = auction_won bidders some hold in
    let others = others_than bidders winner within.bids in
    let apart = others_apart bidders winner others.0 differ others.1 in
    record {
      winner = winner;
      bids = within.bids;
      buys = refl;
      ahead_of_all = within.ahead_of_all;
      others = others.0;
      are_others = others.1;
      highest = highest_bid first rest;
      is_highest = is_greatest (bid_by first) (map bid_by rest);
      second = second_limit winner bidders;
      is_second =
          subst (λ (s : Option ℤ). IsGreatest (map limit_by others.0) (unwrap_or s (pos 0)))
          (sym (without_winner winner None bidders others.0 others.1))
          (greatest_of_others winner others.0 (some_other bidders winner others.0 two others.1) apart);
      price = refl;
      within_limit = within.within_limit;
      at_least_each_bid = within.at_least_each_bid;
    }
