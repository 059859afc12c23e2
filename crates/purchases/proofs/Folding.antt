-- Steps that are made one after the other: for each of a list, or this many times.
use Rattle.std.proofs.Common.{◌≡◌, ℕ, ◌+◌, ◌<◌, List, length, get_or, take, sym, ap, ◌∙◌, add-one}
use Rattle.std.proofs.lemmas.List.Sums.{fold_more}
use Rattle.std.specs.List.{fold}
use Rattle.tables.specs.Steps.{iterate}

-- one more step, for the next of the list
pub fold_goes_on : {A X : Type 0} (step : A → X → A) (start now new : A) (xs : List X) (i : ℕ) (d : X) → i < length xs
    → now ≡ fold step start (take i xs) → new ≡ step now (get_or xs i d) → new ≡ fold step start (take (i + 1) xs)
fold_goes_on {A} {X} step start now new xs i d below so_far next =
    next ∙ ap (λ (state : A). step state (get_or xs i d)) so_far ∙ sym (fold_more step start xs i d below)

-- one more of this many steps
pub iterate_goes_on : {A : Type 0} (step : A → A) (start now new : A) (n : ℕ) → now ≡ iterate step n start
    → new ≡ step now → new ≡ iterate step (n + 1) start
iterate_goes_on step start now new n so_far next = rw add-one (next ∙ ap step so_far)
