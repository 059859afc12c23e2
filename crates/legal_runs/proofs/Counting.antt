-- Numbers that differ and are under a bound are no more than the bound.
use Rattle.std.proofs.Common.{◌≡◌, ℕ, ◌<◌, ◌≤◌, Bool, true, false, eqb, ◌||◌, inl, inr, List, [], ◌∷◌, length, refl}
use Rattle.std.proofs.Common.{sym, subst}
use Rattle.std.specs.List.{AllByRecursion, IsDistinct, list_any}
use Rattle.std.proofs.lemmas.Bool.{eqb-true}
use Rattle.std.proofs.lemmas.Map.Steps.{length-le_from_distinct_below}
use Rattle.reach.specs.Position.{IsAmong}
use Rattle.legal_runs.specs.Legal.{AreDistinct}

differs_by : (x y : ℕ) (b : Bool) → eqb x y ≡ b → (y ≡ x → ⊥) → eqb x y ≡ false
differs_by x y true is other = absurd (other (sym (eqb-true x y is)))
differs_by x y false is other = is

-- a number that is not among others differs from each
differs : (x : ℕ) (xs : List ℕ) → (¬ IsAmong x xs) → AllByRecursion (λ y. eqb x y ≡ false) xs
differs x [] new = tt
differs x (y ∷ ys) new =
    (differs_by x y (eqb x y) refl (λ same. new (inl same)), differs x ys (λ among. new (inr among)))

all_differ : (xs : List ℕ) → AreDistinct xs → IsDistinct eqb xs
unfolding IsDistinct
all_differ [] h = tt
all_differ (x ∷ xs) h = (differs x xs h.0, all_differ xs h.1)

low_by : (n q x : ℕ) (b rest : Bool) → eqb q x ≡ b → (b || rest) ≡ true → x < n → (rest ≡ true → q < n) → q < n
low_by n q x true rest is found low later = subst (λ (k : ℕ). k < n) (sym (eqb-true q x is)) low
low_by n q x false rest is found low later = later found

low_among : (n : ℕ) (xs : List ℕ) → AllByRecursion (λ x. x < n) xs → (q : ℕ) → list_any (eqb q) xs ≡ true → q < n
low_among n [] low q found = absurd (let wrong : false ≡ true = found in cc)
low_among n (x ∷ xs) low q found =
    low_by n q x (eqb q x) (list_any (eqb q) xs) refl found low.0 (low_among n xs low.1 q)

pub no_more : (n : ℕ) (xs : List ℕ) → AreDistinct xs → AllByRecursion (λ x. x < n) xs → length xs ≤ n
no_more n xs distinct low = length-le_from_distinct_below xs n (all_differ xs distinct) (low_among n xs low)
