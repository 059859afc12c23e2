-- What a test of two tests says of each.
use Rattle.std.proofs.Common.{◌≡◌, Bool, true, false, ◌&&◌, not, refl}

pub not_both : (b : Bool) → b ≡ true → b ≡ false → ⊥
not_both true is none = let wrong : true ≡ false = none in cc
not_both false is none = let wrong : false ≡ true = is in cc

pub not_self : (b : Bool) → b ≡ true → not b ≡ true → ⊥
not_self true is none = absurd cc
not_self false is none = absurd cc

pub both_first : (a b : Bool) → (a && b) ≡ true → a ≡ true
both_first true b is = refl
both_first false b is = absurd cc

pub both_second : (a b : Bool) → (a && b) ≡ true → b ≡ true
both_second true b is = is
both_second false b is = absurd cc
