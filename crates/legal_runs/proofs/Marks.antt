-- The borders that are marked, and the marks of used borders once a walk has crossed more.
use Rattle.std.proofs.Common.{◌≡◌, ◌↔◌, ℕ, zero, suc, ◌+◌, ◌<◌, ◌==◌, Bool, true, false, ◌⊎◌, inl, inr, List}
use Rattle.std.proofs.Common.{[], ◌∷◌, ◌++◌, get_or, refl, sym, ◌∙◌, subst, arith}
use Rattle.std.proofs.lemmas.Bool.{eq-eqb, eqb-true}
use Rattle.reach.specs.Position.{IsAmong}
use Rattle.reach.proofs.Lists.{among_found, found_among}
use Rattle.legal_runs.specs.Fault.{has_border}
use Rattle.legal_runs.specs.Marks.{IsUsed, borders_from, borders_used}

-- no border is marked whose mark is before the first
none_before : (number border : ℕ) (marks : List Bool) → border < number
    → has_border border (borders_from number marks) ≡ false
none_before number border [] low = refl
none_before number border (true ∷ marks) low = grind (arith, none_before (number + 1) border marks (omega arith))
none_before number border (false ∷ marks) low = none_before (number + 1) border marks (omega arith)

-- a border is one of those that are marked where its mark is set
listed_from : (number k : ℕ) (marks : List Bool)
    → has_border (number + k) (borders_from number marks) ≡ get_or marks k false
listed_from number k [] = refl
listed_from number zero (true ∷ marks) = grind arith
listed_from number zero (false ∷ marks) = grind (arith, none_before)
listed_from number (suc k) (true ∷ marks) = grind (arith, listed_from (number + 1) k marks)
listed_from number (suc k) (false ∷ marks) = grind (arith, listed_from (number + 1) k marks)

pub mark_listed : (marks : List Bool) (border : ℕ) → has_border border (borders_used marks) ≡ get_or marks border false
unfolding borders_used
mark_listed marks border =
    let none : 0 + border ≡ border = omega arith in
    subst (λ (n : ℕ). has_border n (borders_from 0 marks) ≡ get_or marks border false) none (listed_from 0 border marks)

-- the test of a border among borders
pub among_is : (border : ℕ) (borders : List ℕ) → (has_border border borders ≡ true) ↔ IsAmong border borders
among_is border borders = (
  among_found (λ a b. a == b) (λ a b is. eqb-true a b is) borders border,
  found_among (λ a b. a == b)
      (λ a b is. eq-eqb a b is) borders border,
)

-- a border is used by its mark where it is one of those that are marked
pub used_is : (marks : List Bool) (border : ℕ) → IsUsed marks border ↔ IsAmong border (borders_used marks)
used_is marks border = (
  λ set. (among_is border (borders_used marks)).0 (mark_listed marks border ∙ set),
  λ among. sym
      (mark_listed marks border) ∙ (among_is border (borders_used marks)).1 among,
)

-- one of two lists together
pub among_both : {A : Type 0} (thing : A) (first second : List A)
    → IsAmong thing (first ++ second) ↔ (IsAmong thing first ⊎ IsAmong thing second)
among_both thing [] second = (λ h. inr h, λ h. elim h [ inl none ↦ absurd none | inr there ↦ there ])
among_both thing (other ∷ first) second = grind (arith, among_both thing first second)
