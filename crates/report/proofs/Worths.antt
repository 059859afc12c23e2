-- What a player is worth is summed up value by value. It fits: no account that a list makes is over
-- 2 to the power of 100, and no price more than 350.
use Rattle.std.proofs.Common.{◌≡◌, ℕ, ◌+◌, ◌^◌, ◌<◌, ◌≤◌, List, length, take, get_or, sum_by, pos, ℤ, ◌+ℤ◌, arith}
use Rattle.std.proofs.lemmas.Int.{ints}
use Rattle.std.proofs.lemmas.List.Sums.{sum_by_more}
use mir.Syntax.{w128}
use mir.Val.{of_z, to_z}
use Rattle.totals.specs.LookBack.{IsModerate}

-- one more value is added to those of the first n
pub sum_step : {X : Type 0} (f : X → ℕ) (xs : List X) (n : ℕ) (d : X) (sum value : ℕ) → n < length xs
    → sum ≡ sum_by f (take n xs) → value ≡ f (get_or xs n d) → sum + value ≡ sum_by f (take (n + 1) xs)
sum_step f xs n d sum value below so_far is = omega (arith, sum_by_more f xs n d below, so_far, is)

-- cash with what is owned fits in the bits that it is counted in
pub wealth_fits : (cash : ℤ) (shares privates : ℕ) → IsModerate cash → shares ≤ 2 ^ 112 → privates ≤ 1320 →
    to_z w128 (of_z w128 (to_z w128 (of_z w128 cash) +ℤ to_z w128 (shares + privates)))
    ≡ cash +ℤ pos (shares + privates)
wealth_fits cash shares privates moderate many small =
    let under = moderate.not_under in
    let over = moderate.not_over in
    omega (arith, ints, under, over)
