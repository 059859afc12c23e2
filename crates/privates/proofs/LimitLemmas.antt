-- How far a bidder goes: no less than the bid, and no more than they can spend.
use Rattle.std.proofs.Common.{◌≡◌, ℕ, ◌≤◌, Option, Some, None, ℤ, pos, ◌≤ℤ◌, refl, arith}
use Rattle.std.proofs.lemmas.Int.{ints, clamps}
use Rattle.privates.specs.Limit.{limit_from}

-- no limit is under its bid
pub limit_over_bid : (bid : ℤ) (ordered : Option ℕ) (free : ℤ) → bid ≤ℤ limit_from bid ordered free
limit_over_bid bid None free = omega (arith, ints)
limit_over_bid bid (Some ordered) free = omega (arith, ints, clamps)

-- nor over what the bidder can spend, if the bid isn't
pub limit_in_cash : (bid : ℤ) (ordered : Option ℕ) (free : ℤ) → bid ≤ℤ free → limit_from bid ordered free ≤ℤ free
limit_in_cash bid None free within = within
limit_in_cash bid (Some ordered) free within = omega (arith, ints, clamps)

-- nor more than 99,999, if neither the bid nor what was ordered is
pub limit_is_small : (bid : ℕ) (ordered : Option ℕ) (free : ℤ) → bid ≤ 99999
    → ((amount : ℕ) → ordered ≡ Some amount → amount ≤ 99999) → limit_from (pos bid) ordered free ≤ℤ pos 99999
limit_is_small bid None free small ordered_small = omega (arith, ints)
limit_is_small bid (Some ordered) free small ordered_small =
    let low = ordered_small ordered refl in omega (arith, ints, clamps)
