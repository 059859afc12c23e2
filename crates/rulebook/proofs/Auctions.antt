-- Example for the chapter `bids`: auctions.
-- BOB, at seat 1, has bid 75, and CYD, at seat 2, 80. These are the rows of the table in "The price
-- of an auction".
use Rattle.std.proofs.Common.{◌≡◌, refl, ℕ, ℤ, pos, [], ◌∷◌}
use Rattle.privates.specs.Auction.{auction_of}
use Rattle.tables.specs.Seat.{seat_at}
use Rattle.tables.specs.declared.seat.Seat.{Seat}

-- the auction with these limits: who buys, and for how much
abbrev auction : ℕ → ℕ → Seat × ℤ
auction bobs cyds = auction_of ((seat_at 1, pos 75, pos bobs) ∷ (seat_at 2, pos 80, pos cyds) ∷ [])

-- the second limit and 5 is over the highest bid and under BOB's limit
pub five_over_the_second : auction 120 100 ≡ (seat_at 1, pos 105)
five_over_the_second = refl

-- the limits are equal, and CYD's bid is higher
pub higher_bid : auction 100 100 ≡ (seat_at 2, pos 100)
higher_bid = refl

-- nobody gave a limit, so the limits are the bids: BOB's 75 and 5 is no more than CYD's bid
pub no_limits : auction 75 80 ≡ (seat_at 2, pos 80)
no_limits = refl

-- BOB's limit of 60 counts as their bid of 75
pub limit_under_the_bid : auction 75 100 ≡ (seat_at 2, pos 80)
limit_under_the_bid = refl

-- BOB can spend 100, which is under CYD's limit and 5
pub cut_to_the_cash : auction 100 99 ≡ (seat_at 1, pos 100)
cut_to_the_cash = refl
