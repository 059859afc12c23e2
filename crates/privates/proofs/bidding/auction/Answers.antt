-- The winner among the first bidder and the others buys.
use Rattle.std.proofs.Common.{◌≡◌, ℤ, pos, ◌+ℤ◌, List, ◌∷◌, arith, SFits}
use Rattle.std.specs.Int.{int_max, int_min, w128}
use Rattle.std.proofs.lemmas.Int.{to_z-of_z}
use Rattle.privates.specs.Auction.{Bidder, auction_of, highest_bid, limit_by, second_limit, winner_among}
use Rattle.privates.proofs.bidding.auction.Goals as goal

-- what the parts of an auction give
whole : (bidders others : List Bidder) (first winner : Bidder) (price highest second : ℤ) → bidders ≡ first ∷ others
    → winner ≡ winner_among first others → highest ≡ highest_bid first others → second ≡ second_limit winner bidders
    → price ≡ int_max highest (int_min (limit_by winner) (second +ℤ pos 5)) → (winner.0, price) ≡ auction_of bidders
whole bidders others first winner price highest second are is_winner is_highest is_second is_price = cc

pub returns : goal.returns
returns c =
    let parts = c.in-Some.ensures.cases in
    let fits : SFits w128 c.price.result = record { sfits = c.price.type_inv } in
    let high_fits : SFits w128 c.highest_bid-highest.result = record { sfits = c.highest_bid-highest.type_inv } in
    let second_fits : SFits w128 c.second_limit-second.result = record { sfits = c.second_limit-second.type_inv } in
    rw (to_z-of_z w128 c.price.result fits)
    (whole c.args.bidders.now _ _ c.winner-winner.result c.price.result c.highest_bid-highest.result
    c.second_limit-second.result parts.0 c.winner-winner.ensures c.highest_bid-highest.ensures
    c.second_limit-second.ensures
    (simp (
      to_z-of_z w128 c.highest_bid-highest.result high_fits,
      to_z-of_z w128 c.second_limit-second.result
          second_fits,
    ) at c.price.ensures))

pub returns-in_default : goal.returns-in_default
returns-in_default c = let none = c.in_default.ensures.cases in let two = c.requires.two in absurd (omega arith)
