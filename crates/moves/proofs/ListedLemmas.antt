-- Lists of what is allowed grow by their candidates.
use Rattle.std.proofs.Common.{◌≡◌, ℕ, ◌<◌, ◌+◌, List, [], ◌∷◌, ◌++◌, Result, Ok, Err, ℤ, length, take, get_or, refl}
use Rattle.std.proofs.Common.{ap, ◌∙◌}
use Rattle.std.proofs.Common.{sym, subst, flat_map, ◌≤◌}
use Rattle.std.proofs.lemmas.List.{append_assoc, append-nil, take_more, take_all}
use Rattle.std.proofs.lemmas.Grind.{flat_map-append}
use Rattle.moves.specs.Listed.{AreListed, Lists, priced_if}
use Rattle.moves.specs.declared.priced.Priced.{Priced}

module _ {A Fault : Type 0} (rules : A → Result ℤ Fault → Type 0) where
  -- the lists of two rows of candidates are that of both
  listed_both : (first second : List A) (a b : List (Priced A)) → AreListed rules first a → AreListed rules second b
      → AreListed rules (first ++ second) (a ++ b)
  listed_both [] second a b none more = rw none more
  listed_both (one ∷ rest) second a b (answer, tail, answered, listed, is) more = (
    answer,
    tail ++ b,
    answered,
    listed_both rest second tail b listed more,
    ap (λ l. l ++ b) is ∙ append_assoc (priced_if one answer) tail b,
  )

  -- nothing is added for no candidates
  pub lists_none : (a b : List (Priced A)) → b ≡ a → Lists rules [] a b
  lists_none a b same = record { added = []; listed = refl; after = same ∙ sym (append-nil a) }

  -- what is added for candidates and then for more is added for all of them
  pub lists_both : (first second : List A) (a b c : List (Priced A)) → Lists rules first a b → Lists rules second b c
      → Lists rules (first ++ second) a c
  lists_both first second a b c x y = record {
    added = x.added ++ y.added;
    listed = listed_both first second x.added y.added x.listed y.listed;
    after = y.after ∙ ap (λ l. l ++ y.added) x.after ∙ append_assoc a x.added y.added;
  }

  -- one more of a loop's items, each of which stands for some candidates
  pub lists_next : {X : Type 0} (f : X → List A) (xs : List X) (i : ℕ) (d : X) (a b c : List (Priced A))
      → i < length xs → Lists rules (flat_map f (take i xs)) a b → Lists rules (f (get_or xs i d)) b c
      → Lists rules (flat_map f (take (i + 1) xs)) a c
  lists_next f xs i d a b c low x y =
      let now = get_or xs i d in
      let parts : flat_map f (take (i + 1) xs) ≡ flat_map f (take i xs) ++ f now =
      rw (take_more xs i d low, flat_map-append f (take i xs) (now ∷ []), append-nil (f now)) refl in
      subst (λ (l : List A). Lists rules l a c) (sym parts)
      (lists_both (flat_map f (take i xs)) (f now) a b c x y)

  -- a list that was empty
  pub listed_from_none : (candidates : List A) (list : List (Priced A)) → Lists rules candidates [] list
      → AreListed rules candidates list
  listed_from_none candidates list lists =
      subst (λ (l : List (Priced A)). AreListed rules candidates l) (sym lists.after) lists.listed

  -- all of a loop's items
  pub lists_done : {X : Type 0} (f : X → List A) (xs : List X) (i : ℕ) (a b : List (Priced A)) → length xs ≤ i
      → Lists rules (flat_map f (take i xs)) a b → Lists rules (flat_map f xs) a b
  lists_done {X = X} f xs i a b most lists =
      subst (λ (l : List X). Lists rules (flat_map f l) a b) (take_all i xs most) lists

-- a candidate with its price, where the rules give that
pub lists_priced : {A Fault : Type 0} (rules : A → Result ℤ Fault → Type 0) (one : A) (price : ℤ) (a b : List (Priced A))
    → rules one (Ok price) → b ≡ a ++ record { what = one; price = price } ∷ [] → Lists rules (one ∷ []) a b
lists_priced rules one price a b allowed after = record {
  added = record { what = one; price = price } ∷ [];
  listed = (Ok price, [], allowed, refl, refl);
  after = after;
}

-- none, where they say that it breaks one
pub lists_refused : {A Fault : Type 0} (rules : A → Result ℤ Fault → Type 0) (one : A) (rule : Fault)
    (a : List (Priced A)) → rules one (Err rule) → Lists rules (one ∷ []) a a
lists_refused rules one rule a refused = record {
  added = [];
  listed = (Err rule, [], refused, refl, refl);
  after = sym (append-nil a);
}
