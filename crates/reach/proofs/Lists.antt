-- What is among a list, and lists in order, with one more element at the end.
use Rattle.std.proofs.Common.{◌≡◌, ℕ, zero, suc, ◌+◌, ◌<◌, List, [], ◌∷◌, ◌++◌, ◌⊎◌, inl, inr, Bool, true, ◌||◌}
use Rattle.std.proofs.Common.{length, get_or, take, refl, ap, sym, ◌∙◌, subst, arith}
use Rattle.std.specs.List.{AllByRecursion, list_any}
use Rattle.std.proofs.lemmas.List.{take_more}
use Rattle.std.proofs.Math.Bool.{or-true}
use Rattle.std.proofs.lemmas.Bool.{or_cases}
use Rattle.reach.specs.Position.{IsAmong}
use Rattle.reach.specs.Reached.{AreSortedBy}

-- the element at the end
pub among_end : {A : Type 0} (xs : List A) (x : A) → IsAmong x (xs ++ x ∷ [])
among_end [] x = inl refl
among_end (y ∷ ys) x = inr (among_end ys x)

-- the elements before the end
pub among_before : {A : Type 0} (xs : List A) (x y : A) → IsAmong x xs → IsAmong x (xs ++ y ∷ [])
among_before [] x y h = absurd h
among_before (z ∷ zs) x y (inl h) = inl h
among_before (z ∷ zs) x y (inr h) = inr (among_before zs x y h)

-- an element is before the end, or it is the last
pub among_cases : {A : Type 0} (xs : List A) (x y : A) → IsAmong x (xs ++ y ∷ []) → IsAmong x xs ⊎ (y ≡ x)
among_cases [] x y (inl h) = inr h
among_cases [] x y (inr h) = absurd h
among_cases (z ∷ zs) x y (inl h) = inl (inl h)
among_cases (z ∷ zs) x y (inr h) = elim (among_cases zs x y h) [ inl before ↦ inl (inr before) | inr last ↦ inr last ]

-- an element of one more is one of the first i, or the next
pub among_next : {A : Type 0} (xs : List A) (i : ℕ) (x d : A) → i < length xs → IsAmong x (take (i + 1) xs)
    → IsAmong x (take i xs) ⊎ (x ≡ get_or xs i d)
among_next xs i x d low h =
    elim (among_cases (take i xs) x (get_or xs i d) (subst (λ ys. IsAmong x ys) (take_more xs i d low) h)) [
      | inl before ↦ inl before
      | inr next ↦ inr (sym next)
    ]

-- the element at an index is one
pub among_at : {A : Type 0} (xs : List A) (i : ℕ) (d : A) → i < length xs → IsAmong (get_or xs i d) xs
among_at [] i d low = absurd (omega arith)
among_at (x ∷ xs) zero d low = inl refl
among_at (x ∷ xs) (suc i) d low = inr (among_at xs i d (omega arith))

-- all, and one more
pub all_push : {A : Type 0} (P : A → Type 0) (xs : List A) (x : A) → AllByRecursion P xs → P x
    → AllByRecursion P (xs ++ x ∷ [])
all_push P [] x all here = (here, tt)
all_push P (y ∷ ys) x all here = (all.0, all_push P ys x all.1 here)

-- things in order, and one that comes after all of them
pub order_push : {A : Type 0} (order : A → ℕ) (xs : List A) (x : A) → AreSortedBy order xs
    → AllByRecursion (λ y. order y < order x) xs → AreSortedBy order (xs ++ x ∷ [])
order_push order [] x in_order below = (tt, tt)
order_push order (y ∷ ys) x in_order below =
    (all_push (λ z. order y < order z) ys x in_order.0 below.0, order_push order ys x in_order.1 below.1)

-- what a search by an exact test finds is among the list
pub among_found : {A : Type 0} (same : A → A → Bool) → ((a b : A) → same a b ≡ true → a ≡ b) → (xs : List A) (x : A)
    → list_any (λ y. same y x) xs ≡ true → IsAmong x xs
among_found same exact [] x found = cc
among_found same exact (y ∷ ys) x found =
    elim (or_cases (same y x) (list_any (λ z. same z x) ys) found) [
      | inl here ↦ inl (exact y x here)
      | inr later ↦ inr (among_found same exact ys x later)
    ]

-- and what is among the list is found
pub found_among : {A : Type 0} (same : A → A → Bool) → ((a b : A) → a ≡ b → same a b ≡ true) → (xs : List A) (x : A)
    → IsAmong x xs → list_any (λ y. same y x) xs ≡ true
found_among same alike [] x among = absurd among
found_among same alike (y ∷ ys) x (inl here) = ap (λ b. b || list_any (λ z. same z x) ys) (alike y x here)
found_among same alike (y ∷ ys) x (inr later) =
    ap (λ b. same y x || b) (found_among same alike ys x later) ∙ or-true (same y x)
