-- Finite lists: what two lists make with each other, all lists of some things up to a length, and
-- the greatest of those things that are such.
use Rattle.std.proofs.Common.{◌≡◌, ℕ, zero, suc, ◌<◌, ◌≤◌, Bool, true, false, ltb, inl, inr, List, [], ◌∷◌, ◌++◌}
use Rattle.std.proofs.Common.{length, refl, ap, sym, subst, arith}
use Rattle.std.proofs.lemmas.Bool.{ltb-true, ltb-false}
use Rattle.reach.specs.Position.{IsAmong}
use Rattle.reach.proofs.Decided.{Decided, most_decided}
use Rattle.legal_runs.proofs.Marks.{among_both}

pub turned : (m n : ℕ) → (m ≤ n → ⊥) → n ≤ m
turned m n fails = by_test (ltb n m) refl
  where
    by_test : (b : Bool) → ltb n m ≡ b → n ≤ m
    by_test true is = let less : n < m = ltb-true n m is in omega arith
    by_test false is = absurd (fails (ltb-false n m is))

itself : (n : ℕ) → n ≤ n
itself n = omega arith

module _ {A B : Type 0} (make : A → B) where
  -- what each of some things makes
  pub each : List A → List B
  each [] = []
  each (thing ∷ things) = make thing ∷ each things

  pub among_each : (things : List A) (thing : A) → IsAmong thing things → IsAmong (make thing) (each things)
  unfolding each
  among_each [] thing among = absurd among
  among_each (other ∷ things) thing (inl is) = inl (ap make is)
  among_each (other ∷ things) thing (inr later) = inr (among_each things thing later)

  pub each_among : (things : List A) (made : B) → IsAmong made (each things)
      → (thing : A) × IsAmong thing things × (make thing ≡ made)
  unfolding each
  each_among [] made among = absurd among
  each_among (other ∷ things) made (inl is) = (other, inl refl, is)
  each_among (other ∷ things) made (inr later) = grind (arith, each_among things made later)

module _ {A B C : Type 0} (make : A → B → C) where
  -- what each thing of a list makes with each of another
  pub each_with : List A → List B → List C
  each_with [] others = []
  each_with (thing ∷ things) others = each (make thing) others ++ each_with things others

  pub among_each_with :
      (things : List A) (others : List B) (thing : A) (other : B) → IsAmong thing things → IsAmong other others →
      IsAmong (make thing other) (each_with things others)
  unfolding each_with
  among_each_with [] others thing other among also = absurd among
  among_each_with (first ∷ things) others thing other (inl is) also =
      subst (λ (a : A). IsAmong (make a other) (each (make first) others ++ each_with things others)) is
      ((among_both (make first other) (each (make first) others) (each_with things others)).1
      (inl (among_each (make first) others other also)))
  among_each_with (first ∷ things) others thing other (inr later) also =
      (among_both (make thing other) (each (make first) others) (each_with things others)).1
      (inr (among_each_with things others thing other later also))

  pub each_with_among :
      (things : List A) (others : List B) (made : C) → IsAmong made (each_with things others) →
      (thing : A) × (other : B) × IsAmong thing things × IsAmong other others × (make thing other ≡ made)
  unfolding each_with
  each_with_among [] others made among = absurd among
  each_with_among (first ∷ things) others made among =
      elim ((among_both made (each (make first) others) (each_with things others)).0 among) [
        | inl here ↦ let found = each_among (make first) others made
            here in (first, found.0, inl refl, found.1, found.2)
        | inr later ↦ let found = each_with_among things others made
            later in (found.0, found.1, inr found.2, found.3, found.4)
      ]

module _ {A : Type 0} where
  -- one more thing before them
  abbrev in_front : A → List A → List A
  in_front thing list = thing ∷ list

  -- all lists of some things that have at most this many
  pub lists_of : ℕ → List A → List (List A)
  lists_of zero things = [] ∷ []
  lists_of (suc count) things = [] ∷ each_with in_front things (lists_of count things)

  pub among_lists :
      (count : ℕ) (things list : List A) → length list ≤ count
      → ((thing : A) → IsAmong thing list → IsAmong thing things) →
      IsAmong list (lists_of count things)
  unfolding lists_of
  among_lists zero things [] few all = inl refl
  among_lists zero things (thing ∷ list) few all = absurd (omega arith)
  among_lists (suc count) things [] few all = inl refl
  among_lists (suc count) things (thing ∷ list) few all =
      inr (among_each_with in_front things (lists_of count things) thing list (all thing (inl refl))
      (among_lists count things list (omega arith) (λ other among. all other (inr among))))

  pub lists_among : (count : ℕ) (things list : List A) → IsAmong list (lists_of count things) → (thing : A)
      → IsAmong thing list → IsAmong thing things
  unfolding lists_of
  lists_among zero things list (inl is) thing among = absurd (subst (λ (l : List A). IsAmong thing l) (sym is) among)
  lists_among zero things list (inr none) thing among = absurd none
  lists_among (suc count) things list (inl is) thing among =
      absurd (subst (λ (l : List A). IsAmong thing l) (sym is) among)
  lists_among (suc count) things list (inr made) thing among =
      let found = each_with_among in_front things (lists_of count things) list made in
      elim (subst (λ (l : List A). IsAmong thing l) (sym found.4) among) [
        | inl here ↦ subst (λ (a : A). IsAmong a things) here found.2
        | inr later ↦ lists_among count things found.1 found.3 thing later
      ]

  module _ (P : A → Type 0) (worth : A → ℕ) where
    -- the greatest of some things that are such
    pub record IsTop (things : List A) : Type 0 where
      pub top : A
      pub such : P top
      pub most : (other : A) → IsAmong other things → P other → worth other ≤ worth top

    pub top_of : (things : List A) → ((thing : A) → IsAmong thing things → Decided (P thing)) → (first : A) → P first
        → IsTop things
    top_of [] known first such = record { top = first; such = such; most = λ other among also. absurd among }
    top_of (thing ∷ things) known first such =
        by_thing (top_of things (λ other among. known other (inr among)) first such) (known thing (inl refl))
      where
        by_worth : (rest : IsTop things) → P thing → Decided (worth thing ≤ worth rest.top) → IsTop (thing ∷ things)
        by_worth rest such (inl less) =
            record {
              top = rest.top;
              such = rest.such;
              most = λ other among also. elim among [
                | inl here ↦ subst (λ (a : A). worth a ≤ worth rest.top) here less
                | inr later ↦ rest.most other later also
              ];
            }
        by_worth rest such (inr more) =
            let over : worth rest.top ≤ worth thing = turned (worth thing) (worth rest.top) more in
            record {
              top = thing;
              such = such;
              most = λ other among also. elim among [
                | inl here ↦ subst (λ (a : A). worth a ≤ worth thing) here (itself (worth thing))
                | inr later ↦ let few : worth other ≤ worth rest.top = rest.most other later also in omega arith
              ];
            }

        by_thing : IsTop things → Decided (P thing) → IsTop (thing ∷ things)
        by_thing rest (inl holds) = by_worth rest holds (most_decided (worth thing) (worth rest.top))
        by_thing rest (inr fails) =
            record {
              top = rest.top;
              such = rest.such;
              most = λ other among also. elim among [
                | inl here ↦ absurd (fails (subst P (sym here) also))
                | inr later ↦ rest.most other later also
              ];
            }
