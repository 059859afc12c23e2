-- The names of players that are printed grow by one name.
use Rattle.std.proofs.Common.{◌≡◌, ℕ, ◌+◌, ◌<◌, List, [], ◌∷◌, ◌++◌, length, take, get_or, append_assoc}
use Rattle.std.specs.Prelude.{unwrap_or, slice_get}
use Rattle.std.specs.List.{flat_map}
use Rattle.std.proofs.lemmas.Option.{unwrap_or-slice_get}
use Rattle.tables.proofs.OneMore.{elements_step}

-- a further name, after a space
pub names_step : (names : List (List ℕ)) (n : ℕ) (old was now : List ℕ) → n < length names
    → was ≡ old ++ flat_map (λ name. 32 ∷ name) (take n names)
    → now ≡ (was ++ 32 ∷ []) ++ unwrap_or (slice_get names n) []
    → now ≡ old ++ flat_map (λ name. 32 ∷ name) (take (n + 1) names)
names_step names n old was now below before after =
    let joined : now ≡ was ++ 32 ∷ get_or names n [] =
    rw (after, unwrap_or-slice_get names n []) (append_assoc was (32 ∷ []) (get_or names n [])) in
    elements_step (λ name. 32 ∷ name) names n [] old was now below before joined
