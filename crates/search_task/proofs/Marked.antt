-- What is marked, one by one, once some borders have been marked, or their marks taken away.
use Rattle.std.proofs.Common.{◌≡◌, ◌↔◌, ℕ, ◌<◌, Bool, true, false, not, ◌||◌, ◌⊎◌, inl, inr, List, [], ◌∷◌}
use Rattle.std.proofs.Common.{◌++◌, length, get_or, set, refl, sym, ap, ◌∙◌, arith, get_or-set_same, get_or-set_other}
use Rattle.std.proofs.Common.{length-set, replicate, zero, suc}
use Rattle.std.specs.List.{list_any}
use Rattle.std.proofs.lemmas.Bool.{cases_eq, or_left, or_right}
use Rattle.reach.specs.Position.{IsAmong}
use Rattle.search_task.specs.Fit.{BordersFit}
use Rattle.search_task.specs.Marks.{Freer, IsMarked}
use Rattle.search_task.specs.Crossed.{cleared_all, marked_all, misses}
use Rattle.search_task.proofs.Booleans.{not_both}
use Rattle.legal_runs.specs.Law.{unused}

-- one more mark
pub mark_more : (marks : List Bool) (n m : ℕ) → n < length marks
    → IsMarked (set marks n true) m ↔ ((m ≡ n) ⊎ IsMarked marks m)
mark_more marks n m low =
    elim (cases_eq m n) [
      | inl same ↦ (
        λ is. inl same,
        λ is. ap (λ k. get_or (set marks n true) k false) same
            ∙ get_or-set_same marks n true false low,
      )
      | inr other ↦ (
        λ is. inr (sym (get_or-set_other marks n m true false other) ∙ is),
        λ is. elim is [
          | inl same ↦ absurd (other same)
          | inr before ↦ get_or-set_other marks n m true false other
              ∙ before
        ],
      )
    ]

-- more borders are marked
pub marks_more : (used : List Bool) (borders : List ℕ) → BordersFit borders → length used ≡ 279 → (border : ℕ)
    → IsMarked (marked_all used borders) border ↔ (IsAmong border borders ⊎ IsMarked used border)
marks_more used [] fit whole border = (λ is. inr is, λ is. elim is [ inl none ↦ absurd none | inr marked ↦ marked ])
marks_more used (first ∷ borders) fit whole border =
    let rest : IsMarked (marked_all (set used first true) borders) border
    ↔ (IsAmong border borders ⊎ IsMarked (set used first true) border) =
    marks_more (set used first true) borders fit.1 (length-set used first true ∙ whole) border in
    let one : IsMarked (set used first true) border ↔ ((border ≡ first) ⊎ IsMarked used border) =
    mark_more used first border (omega (arith, fit.0)) in (
      λ is. elim (rest.0 is) [
        | inl later ↦ inl (inr later)
        | inr marked ↦ elim (one.0 marked)
            [ inl here ↦ inl (inl (sym here)) | inr before ↦ inr before ]
      ],
      λ is. elim is [
        | inl among ↦ elim among [ inl here ↦ rest.1 (inr (one.1 (inl (sym here)))) | inr later ↦ rest.1 (inl later) ]
        | inr before ↦ rest.1 (inr (one.1 (inr before)))
      ],
    )

or_neither : (a b : Bool) → (a ≡ true → ⊥) → (b ≡ true → ⊥) → (a || b) ≡ false
or_neither true b first second = absurd (first refl)
or_neither false true first second = absurd (second refl)
or_neither false false first second = refl

-- some border of a list is marked
any_marked : (used : List Bool) (borders : List ℕ) (border : ℕ) → IsAmong border borders → IsMarked used border
    → list_any (λ b. get_or used b false) borders ≡ true
any_marked used [] border among marked = absurd among
any_marked used (first ∷ borders) border among marked =
    elim among [
      | inl here ↦ or_left (get_or used first false) (list_any (λ b. get_or used b false) borders)
          (ap (λ b. get_or used b false) here ∙ marked)
      | inr later ↦ or_right (get_or used first false) (list_any (λ b. get_or used b false) borders)
          (any_marked used borders border later marked)
    ]

none_marked : (used : List Bool) (borders : List ℕ)
    → ((border : ℕ) → IsAmong border borders → IsMarked used border → ⊥)
    → list_any (λ b. get_or used b false) borders ≡ false
none_marked used [] none = refl
none_marked used (first ∷ borders) none =
    or_neither (get_or used first false) (list_any (λ b. get_or used b false) borders) (none first (inl refl))
    (λ any. let rest : list_any (λ b. get_or used b false) borders ≡ false =
    none_marked used borders (λ border among. none border (inr among)) in absurd
    (let wrong : true ≡ false = sym any ∙ rest in cc))

-- no border of some is used
pub misses_free : (used : List Bool) (borders : List ℕ) → misses used borders ≡ true → (border : ℕ)
    → IsAmong border borders → IsMarked used border → ⊥
misses_free used borders free border among marked =
    let wrong : false ≡ true = sym (ap not (any_marked used borders border among marked)) ∙ free in cc

pub free_misses : (used : List Bool) (borders : List ℕ)
    → ((border : ℕ) → IsAmong border borders → IsMarked used border → ⊥) → misses used borders ≡ true
free_misses used borders none = ap not (none_marked used borders none)

pub marked_append : (used : List Bool) (xs ys : List ℕ)
    → marked_all (marked_all used xs) ys ≡ marked_all used (xs ++ ys)
marked_append used [] ys = refl
marked_append used (x ∷ xs) ys = marked_append (set used x true) xs ys

-- what is marked stays so
pub set_stays : (marks : List Bool) (n m : ℕ) → IsMarked marks m → IsMarked (set marks n true) m
set_stays [] n m is = is
set_stays (mark ∷ marks) zero zero is = refl
set_stays (mark ∷ marks) zero (suc m) is = is
set_stays (mark ∷ marks) (suc n) zero is = is
set_stays (mark ∷ marks) (suc n) (suc m) is = set_stays marks n m is

pub marked_stays : (marks : List Bool) (borders : List ℕ) (m : ℕ) → IsMarked marks m
    → IsMarked (marked_all marks borders) m
marked_stays marks [] m is = is
marked_stays marks (border ∷ borders) m is = marked_stays (set marks border true) borders m
    (set_stays marks border m is)

pub freer_marked : (used others : List Bool) (n : ℕ) → Freer used others → IsMarked others n → IsMarked used n
freer_marked [] [] n freer marked = marked
freer_marked [] (mark ∷ others) n freer marked = absurd freer
freer_marked (mark ∷ used) [] n freer marked = absurd freer
freer_marked (mark ∷ used) (other ∷ others) zero freer marked = freer.0 marked
freer_marked (mark ∷ used) (other ∷ others) (suc n) freer marked = freer_marked used others n freer.1 marked

pub unused_none : (n : ℕ) → unused (replicate n false) ≡ n
unused_none zero = refl
unused_none (suc n) = let rest = unused_none n in omega arith

-- a mark that is taken away
unset_here : (marks : List Bool) (n : ℕ) → get_or (set marks n false) n false ≡ false
unset_here [] n = refl
unset_here (mark ∷ marks) zero = refl
unset_here (mark ∷ marks) (suc n) = unset_here marks n

unset_fewer : (marks : List Bool) (n m : ℕ) → IsMarked (set marks n false) m → IsMarked marks m
unset_fewer [] n m is = is
unset_fewer (mark ∷ marks) zero zero is = absurd (let wrong : false ≡ true = is in cc)
unset_fewer (mark ∷ marks) zero (suc m) is = is
unset_fewer (mark ∷ marks) (suc n) zero is = is
unset_fewer (mark ∷ marks) (suc n) (suc m) is = unset_fewer marks n m is

pub cleared_fewer : (borders : List ℕ) (marks : List Bool) (m : ℕ) → IsMarked (cleared_all marks borders) m
    → IsMarked marks m
cleared_fewer [] marks m is = is
cleared_fewer (border ∷ borders) marks m is = unset_fewer marks border m
    (cleared_fewer borders (set marks border false) m is)

pub cleared_here : (borders : List ℕ) (marks : List Bool) (border : ℕ) → IsAmong border borders
    → IsMarked (cleared_all marks borders) border → ⊥
cleared_here [] marks border among is = absurd among
cleared_here (first ∷ borders) marks border among is =
    elim among [
      | inl here ↦ not_both (get_or (set marks first false) border false)
          (cleared_fewer borders (set marks first false) border is)
          (ap (λ (n : ℕ). get_or (set marks first false) n false) (sym here) ∙ unset_here marks first)
      | inr later ↦ cleared_here borders (set marks first false) border later is
    ]
