-- Lists that grow by an element of another list at a time.
use Rattle.std.proofs.Common.{◌≡◌, ℕ, ◌+◌, ◌<◌, List, [], ◌∷◌, ◌++◌, length, map, take, get_or, ap, sym, ◌∙◌}
use Rattle.std.proofs.lemmas.List.{append_assoc, map_more}

-- what one more element gives is added to what the first n give
pub shown_step : {X Y : Type 0} (f : X → Y) (xs : List X) (n : ℕ) (x : X) (old was now : List Y) → n < length xs
    → x ≡ get_or xs n x → was ≡ old ++ map f (take n xs) → now ≡ was ++ f x ∷ []
    → now ≡ old ++ map f (take (n + 1) xs)
shown_step f xs n x old was now below is before after =
    after
    ∙ ap (λ one. was ++ f one ∷ []) is
    ∙ ap (λ all. all ++ f (get_or xs n x) ∷ []) before
    ∙ append_assoc old (map f (take n xs)) (f (get_or xs n x) ∷ [])
    ∙ ap (λ more. old ++ more) (sym (map_more f xs n x below))
