-- One more of a loop's items, in a sum and in a list that grows.
use Rattle.std.proofs.Common.{◌≡◌, ℕ, ◌<◌, ◌+◌, List, [], ◌∷◌, ◌++◌, length, take, get_or, flat_map, sum_by}
use Rattle.std.proofs.Common.{refl, sym, ap, ◌∙◌}
use Rattle.std.proofs.lemmas.List.{append-nil, take_more}
use Rattle.std.proofs.lemmas.List.Sums.{sum_by_more}
use Rattle.std.proofs.lemmas.Grind.{flat_map-append}

-- a sum with what one more item adds
pub sum_goes_on : {X : Type 0} (f : X → ℕ) (now one : ℕ) (xs : List X) (i : ℕ) (d : X) → i < length xs
    → now ≡ sum_by f (take i xs) → one ≡ f (get_or xs i d) → now + one ≡ sum_by f (take (i + 1) xs)
sum_goes_on f now one xs i d low so_far is =
    ap (λ (n : ℕ). n + one) so_far ∙ ap (λ (n : ℕ). sum_by f (take i xs) + n) is ∙ sym (sum_by_more f xs i d low)

-- a list with what one more item adds
pub list_goes_on : {A X : Type 0} (g : X → List A) (now new : List A) (xs : List X) (i : ℕ) (d : X) → i < length xs
    → now ≡ flat_map g (take i xs) → new ≡ now ++ g (get_or xs i d) → new ≡ flat_map g (take (i + 1) xs)
list_goes_on {A} g now new xs i d low so_far is =
    let it = get_or xs i d in
    let parts : flat_map g (take (i + 1) xs) ≡ flat_map g (take i xs) ++ g it =
    rw (take_more xs i d low, flat_map-append g (take i xs) (it ∷ []), append-nil (g it)) refl in
    is ∙ ap (λ (list : List A). list ++ g it) so_far ∙ sym parts
