-- The first of a list that passes a test, by the one in hand; a test of equal numbers.
use Rattle.std.proofs.Common.{◌≡◌, ℕ, ◌+◌, ◌<◌, ◌≤◌, Bool, true, false, cond, List, [], length, get_or, drop}
use Rattle.std.proofs.Common.{◌∷◌, Some, None, IfSome, ℤ, refl, ap, ◌∙◌}
use Rattle.std.proofs.lemmas.List.{at_drop_all, at_drop_more}
use Rattle.std.specs.List.{find}

-- it is the first of those that are left, if it passes
pub find_here : {X : Type 0} (p : X → Bool) (xs : List X) (i : ℕ) (d : X) → i < length xs → p (get_or xs i d) ≡ true
    → find p (drop i xs) ≡ Some (get_or xs i d)
find_here p xs i d low passes =
    at_drop_more (find p) xs i d low
    ∙ ap (λ (b : Bool). cond b (Some (get_or xs i d)) (find p (drop (i + 1) xs))) passes

-- it is a later one, if that does not pass
pub find_later : {X : Type 0} (p : X → Bool) (xs : List X) (i : ℕ) (d : X) → i < length xs
    → p (get_or xs i d) ≡ false → find p (drop i xs) ≡ find p (drop (i + 1) xs)
find_later p xs i d low fails =
    at_drop_more (find p) xs i d low
    ∙ ap (λ (b : Bool). cond b (Some (get_or xs i d)) (find p (drop (i + 1) xs))) fails

-- none is left
pub find_none : {X : Type 0} (p : X → Bool) (xs : List X) (i : ℕ) → length xs ≤ i → find p (drop i xs) ≡ None
find_none p xs i over = at_drop_all (find p) xs i over

-- what is found passes
pub found_passes : {X : Type 0} (p : X → Bool) (xs : List X) → IfSome (find p xs) (λ x. p x ≡ true)
found_passes p [] = tt
found_passes p (x ∷ xs) =
    (elim (p x) as (λ b. p x ≡ b → IfSome (cond b (Some x) (find p xs)) (λ y. p y ≡ true)) [
      | true ↦ λ is. is
      | false ↦ λ is. found_passes p xs
    ]) refl

-- a test of four numbers is that of their equals
pub same_test : (f : ℤ → ℤ → ℤ → ℤ → Bool) (a b c d e g h i : ℤ) → a ≡ e → b ≡ g → c ≡ h → d ≡ i
    → f a b c d ≡ f e g h i
same_test f a b c d e g h i first second third fourth =
    ap (λ (z : ℤ). f z b c d) first
    ∙ ap (λ (z : ℤ). f e z c d) second
    ∙ ap (λ (z : ℤ). f e g z d) third
    ∙ ap (λ (z : ℤ). f e g h z) fourth
