-- A sum that would be past the greatest is no less than the winner's limit.
use Rattle.std.proofs.Common.{◌≡◌, ℤ, pos, negsuc, ◌+ℤ◌, SFits, arith}
use Rattle.std.specs.Int.{int_min, saturate_signed, w128}
use Rattle.std.proofs.lemmas.Int.{ints, to_z-of_z}
use Rattle.privates.proofs.bidding.price.Goals as goal

-- to go no further than the greatest sum makes no difference to the lesser of it and a limit
saturated : (limit second : ℤ) → SFits w128 limit → SFits w128 second
    → int_min limit (saturate_signed w128 (second +ℤ pos 5)) ≡ int_min limit (second +ℤ pos 5)
saturated limit (pos second) small fits = let s = small.sfits in grind (arith, ints)
saturated limit (negsuc second) small fits = let s = fits.sfits in grind (arith, ints)

pub returns : goal.returns
returns c = let a = c.saturating_add.ensures in let b = c.min.ensures.value in let d =
    c.max.ensures.value in grind (arith, to_z-of_z, saturated)
