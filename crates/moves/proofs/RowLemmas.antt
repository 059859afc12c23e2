-- Rows grow by those of their candidates.
use Rattle.std.proofs.Common.{◌≡◌, ℕ, ◌<◌, ◌+◌, ◌≤◌, List, [], ◌∷◌, ◌++◌, length, map, take, get_or, flat_map}
use Rattle.std.proofs.Common.{refl, sym, ap, subst, ◌∙◌}
use Rattle.std.proofs.lemmas.List.{append_assoc, append-nil, map-append, take_more, take_all}
use Rattle.std.proofs.lemmas.Grind.{flat_map-append}

module _ {A B : Type 0} (f : A → B) where
  -- the rows of candidates and then of more are those of all of them
  pub rows_both : (first second : List A) (a b c : List B) → b ≡ a ++ map f first → c ≡ b ++ map f second
      → c ≡ a ++ map f (first ++ second)
  rows_both first second a b c x y =
      y ∙ ap (λ (l : List B). l ++ map f second) x ∙ append_assoc a (map f first) (map f second)
      ∙ ap (λ (l : List B). a ++ l) (sym (map-append f first second))

  -- nothing is added for no candidates
  pub rows_none : {X : Type 0} (g : X → List A) (a : List B) → a ≡ a ++ map f (flat_map g [])
  rows_none g a = sym (append-nil a)

  -- one more of a loop's items, each of which stands for some candidates
  pub rows_next : {X : Type 0} (g : X → List A) (xs : List X) (i : ℕ) (d : X) (a b c : List B) → i < length xs
      → b ≡ a ++ map f (flat_map g (take i xs)) → c ≡ b ++ map f (g (get_or xs i d))
      → c ≡ a ++ map f (flat_map g (take (i + 1) xs))
  rows_next g xs i d a b c low x y =
      let now = get_or xs i d in
      let parts : flat_map g (take (i + 1) xs) ≡ flat_map g (take i xs) ++ g now =
      rw (take_more xs i d low, flat_map-append g (take i xs) (now ∷ []), append-nil (g now)) refl in
      subst (λ (l : List A). c ≡ a ++ map f l) (sym parts)
      (rows_both (flat_map g (take i xs)) (g now) a b c x y)

  -- all of a loop's items
  pub rows_done : {X : Type 0} (g : X → List A) (xs : List X) (i : ℕ) (a b : List B) → length xs ≤ i
      → b ≡ a ++ map f (flat_map g (take i xs)) → b ≡ a ++ map f (flat_map g xs)
  rows_done {X = X} g xs i a b most is =
      subst (λ (l : List X). b ≡ a ++ map f (flat_map g l)) (take_all i xs most) is
