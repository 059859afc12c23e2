-- Numbers of dollars and of trains are subtracted as they are.
use Rattle.std.proofs.Common.{◌≡◌, ℤ, pos, ◌-ℤ◌, arith}
use Rattle.std.proofs.lemmas.Int.{ints}
use mir.Syntax.{w128}
use mir.Val.{of_z, to_z}
use Rattle.totals.specs.LookBack.{IsModerate}
use Rattle.tables.specs.Train.{trains_of}
use Rattle.tables.specs.declared.rolling_stock.Kind.{Kind}
use Rattle.tables.specs.declared.rolling_stock.Kind.TheVariants.{Two, Three, Four, Five, Six, Diesel}

-- a difference as it is counted in 128 bits
abbrev pub counted : ℤ → ℤ → ℤ
counted a b = to_z w128 (of_z w128 (to_z w128 (of_z w128 a) -ℤ to_z w128 (of_z w128 b)))

-- of the price of a train and a moderate sum
pub price_less : (kind : Kind) (cash : ℤ) → IsModerate cash
    → counted (pos (trains_of kind).price) cash ≡ pos (trains_of kind).price -ℤ cash
price_less Two cash within = omega (arith, ints)
price_less Three cash within = omega (arith, ints)
price_less Four cash within = omega (arith, ints)
price_less Five cash within = omega (arith, ints)
price_less Six cash within = omega (arith, ints)
price_less Diesel cash within = omega (arith, ints)

-- of two moderate numbers
pub moderates_less : (a b : ℤ) → IsModerate a → IsModerate b → counted a b ≡ a -ℤ b
moderates_less a b small within = omega (arith, ints)
