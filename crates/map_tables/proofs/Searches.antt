-- What a search of a list finds.
use Rattle.std.proofs.Common.{◌≡◌, Bool, true, false, cond, List, [], ◌∷◌, Some, refl}
use Rattle.std.specs.List.{find}

-- it passes the test
pub found_passes : {A : Type 0} (test : A → Bool) (things : List A) (thing : A) → find test things ≡ Some thing
    → test thing ≡ true
found_passes test [] thing is = absurd cc
found_passes test (first ∷ rest) thing is =
    (elim (test first) as (λ b. test first ≡ b → cond b (Some first) (find test rest) ≡ Some thing
    → test thing ≡ true) [
      | true ↦ λ passes found. let same : first ≡ thing = cc in rw (← same) passes
      | false ↦ λ passes found. found_passes test rest thing found
    ]) refl is
