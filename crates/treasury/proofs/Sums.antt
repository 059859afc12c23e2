-- The sums of a payment.
use Rattle.std.proofs.Common.{◌≡◌, ◌+ℤ◌, ◌-ℤ◌, ℤ, Bool, true, false, if◌then◌else◌, pos, arith}
use Rattle.std.proofs.lemmas.Int.{ints}
use Rattle.treasury.specs.Accounts.{IsSum}
use Rattle.totals.specs.LookBack.{IsModerate}
use mir.Syntax.{w128}
use mir.Val.{SFits, of_z, to_z}

-- a sum as it is passed
abbrev passed : ℤ → ℤ
passed sum = to_z w128 (of_z w128 sum)

-- what is added where a sum is paid
abbrev less : Bool → ℤ → ℤ
less pays sum = if pays then passed (pos 0 -ℤ passed sum) else pos 0

-- the cash of the one that is paid stays within bounds, even if it is the one that pays
pub paid_fits : (pays : Bool) (before between sum : ℤ) → IsModerate before → IsSum sum → SFits w128 sum
    → between ≡ before +ℤ less pays sum →
    SFits w128 (between +ℤ passed sum)
paid_fits true before between sum reach is_sum fits after_first = record { sfits = grind (arith, ints) }
paid_fits false before between sum reach is_sum fits after_first = record { sfits = grind (arith, ints) }

-- the cash of a party after a payment
pub paid_both : (pays paid : Bool) (before between after sum : ℤ) → IsSum sum → SFits w128 sum
    → between ≡ before +ℤ less pays sum →
    after ≡ between +ℤ (if paid then passed sum else pos 0)
    → after ≡ (before +ℤ (if paid then sum else pos 0)) -ℤ (if pays then sum else pos 0)
paid_both true true before between after sum is_sum fits first second = omega (arith, ints)
paid_both true false before between after sum is_sum fits first second = omega (arith, ints)
paid_both false true before between after sum is_sum fits first second = omega (arith, ints)
paid_both false false before between after sum is_sum fits first second = omega (arith, ints)
