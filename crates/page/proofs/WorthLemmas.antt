-- What six players are worth.
use Rattle.std.proofs.Common.{◌≡◌, ℤ, [], ◌∷◌}

-- six numbers that are six others, one by one
pub six_same : {a b c d e f u v w x y z : ℤ} → a ≡ u → b ≡ v → c ≡ w → d ≡ x → e ≡ y → f ≡ z
    → a ∷ b ∷ c ∷ d ∷ e ∷ f ∷ [] ≡ u ∷ v ∷ w ∷ x ∷ y ∷ z ∷ []
six_same first second third fourth fifth sixth = cc
