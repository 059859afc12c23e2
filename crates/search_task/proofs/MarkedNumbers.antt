-- The numbers that are marked in a set: of some borders that have been marked they are the borders
-- again, each once.
use Rattle.std.proofs.Common.{◌≡◌, ◌↔◌, ℕ, zero, suc, ◌+◌, ◌<◌, Bool, true, false, ◌⊎◌, inl, inr, List, [], ◌∷◌, length}
use Rattle.std.proofs.Common.{get_or, set, refl, sym, subst, ◌∙◌, arith, length-set}
use Rattle.std.proofs.lemmas.List.{length-replicate}
use Rattle.reach.proofs.Collected.{none_marked}
use Rattle.reach.proofs.Marking.{set_cases}
use Rattle.reach.specs.Position.{IsAmong}
use Rattle.search_task.specs.Crossed.{before_if, marked_all, misses, numbers_from, numbers_in}
use Rattle.search_task.specs.Fit.{BordersFit}
use Rattle.search_task.specs.Marks.{IsMarked}
use Rattle.search_task.proofs.Marked.{free_misses, marked_stays, marks_more, misses_free}
use Rattle.search_task.proofs.Marks.{length_marked}
use Rattle.search_task.proofs.Words.{marked_low, same_marks}
use Rattle.search_task.proofs.Booleans.{not_both}
use Rattle.tables.proofs.Tests.{same_bool}
use Rattle.legal_runs.specs.TwoTrain.{none_used}

-- what is marked is among them
later_among : (mark : Bool) (first n : ℕ) (numbers : List ℕ) → IsAmong n numbers
    → IsAmong n (before_if mark first numbers)
later_among true first n numbers among = inr among
later_among false first n numbers among = among

marked_among : (marks : List Bool) (first place n : ℕ) → n ≡ first + place → IsMarked marks place
    → IsAmong n (numbers_from first marks)
marked_among [] first place n is marked = absurd (let wrong : false ≡ true = marked in cc)
marked_among (true ∷ marks) first zero n is marked = inl (let same : first ≡ n = omega (arith, is) in same)
marked_among (false ∷ marks) first zero n is marked = absurd (let wrong : false ≡ true = marked in cc)
marked_among (mark ∷ marks) first (suc place) n is marked =
    later_among mark first n (numbers_from (suc first) marks)
    (marked_among marks (suc first) place n (omega (arith, is)) marked)

-- and nothing else is
pub record IsAt (marks : List Bool) (first n : ℕ) : Type 0 where
  pub place : ℕ
  pub is : n ≡ first + place
  pub marked : IsMarked marks place

one_on : (mark : Bool) (marks : List Bool) (first n : ℕ) → IsAt marks (suc first) n → IsAt (mark ∷ marks) first n
one_on mark marks first n at =
    record { place = suc at.place; is = omega (arith, at.is); marked = at.marked }

among_at : (marks : List Bool) (first n : ℕ) → IsAmong n (numbers_from first marks) → IsAt marks first n
among_at [] first n among = absurd among
among_at (true ∷ marks) first n (inl here) = record { place = 0; is = omega (arith, here); marked = refl }
among_at (true ∷ marks) first n (inr later) = one_on true marks first n (among_at marks (suc first) n later)
among_at (false ∷ marks) first n among = one_on false marks first n (among_at marks (suc first) n among)

pub in_set : (marks : List Bool) (border : ℕ) → IsMarked marks border ↔ IsAmong border (numbers_in marks)
unfolding numbers_in
in_set marks border = (
  λ marked. marked_among marks 0 border border (omega arith) marked,
  λ among.
      let at = among_at marks 0 border among in
      subst (IsMarked marks) (let same : at.place ≡ border = omega (arith, at.is) in same) at.marked,
)

-- those of a set of borders have numbers
fits_each : (borders : List ℕ) → ((border : ℕ) → IsAmong border borders → border < 279) → BordersFit borders
fits_each [] low = tt
fits_each (border ∷ borders) low = (low border (inl refl), fits_each borders (λ other among. low other (inr among)))

pub numbers_fit : (marks : List Bool) → length marks ≡ 279 → BordersFit (numbers_in marks)
numbers_fit marks whole =
    fits_each (numbers_in marks) (λ border among. omega
    (arith, whole, marked_low marks border ((in_set marks border).1 among)))

-- some borders that have been marked
pub crossed_are : (borders : List ℕ) → BordersFit borders → (border : ℕ)
    → IsAmong border (numbers_in (marked_all none_used borders)) ↔ IsAmong border borders
crossed_are borders fit border =
    let of = marks_more none_used borders fit (length-replicate 279 false) border in
    let in_it = in_set (marked_all none_used borders) border in (
      λ among. elim (of.0 (in_it.1 among)) [
        | inl one ↦ one
        | inr none ↦ absurd (not_both (get_or none_used border false) none (none_marked 279 border))
      ],
      λ among. in_it.0 (of.1 (inl among)),
    )

pub crossed_fit : (borders : List ℕ) → BordersFit (numbers_in (marked_all none_used borders))
crossed_fit borders =
    numbers_fit (marked_all none_used borders) (length_marked none_used borders ∙ length-replicate 279 false)

among_some : (borders : List ℕ) (border : ℕ) → IsAmong border borders → 0 < length borders
among_some [] border among = absurd among
among_some (first ∷ borders) border among = omega arith

pub crossed_some : (borders : List ℕ) → BordersFit borders → 0 < length borders
    → 0 < length (numbers_in (marked_all none_used borders))
crossed_some [] fit some = absurd (omega (arith, some))
crossed_some (border ∷ borders) fit some =
    among_some (numbers_in (marked_all none_used (border ∷ borders))) border
    ((crossed_are (border ∷ borders) fit border).1 (inl refl))

-- none of some is used if none of the others is, where they are the same
missed_by : (used : List Bool) (borders others : List ℕ)
    → ((border : ℕ) → IsAmong border others → IsAmong border borders) → misses used borders ≡ true
    → misses used others ≡ true
missed_by used borders others each free =
    free_misses used others (λ border among marked. misses_free used borders free border (each border among) marked)

pub crossed_misses : (used : List Bool) (borders : List ℕ) → BordersFit borders
    → misses used (numbers_in (marked_all none_used borders)) ≡ misses used borders
crossed_misses used borders fit =
    same_bool (misses used (numbers_in (marked_all none_used borders))) (misses used borders)
    (missed_by used (numbers_in (marked_all none_used borders)) borders (λ border. (crossed_are borders fit border).1))
    (missed_by used borders (numbers_in (marked_all none_used borders)) (λ border. (crossed_are borders fit border).0))

-- what is marked with some is marked with the others
set_here : (marks : List Bool) (n : ℕ) → n < length marks → IsMarked (set marks n true) n
set_here [] n low = absurd (omega (arith, low))
set_here (mark ∷ marks) zero low = refl
set_here (mark ∷ marks) (suc n) low = set_here marks n (omega (arith, low))

from_marked : (borders : List ℕ) (used : List Bool) (n : ℕ) → IsMarked (marked_all used borders) n
    → IsAmong n borders ⊎ IsMarked used n
from_marked [] used n marked = inr marked
from_marked (border ∷ borders) used n marked =
    elim (from_marked borders (set used border true) n marked) [
      | inl later ↦ inl (inr later)
      | inr here ↦ elim (set_cases used border n here) [ inl same ↦ inl (inl same) | inr before ↦ inr before ]
    ]

to_marked : (borders : List ℕ) (used : List Bool) (n : ℕ) → IsAmong n borders → n < length used
    → IsMarked (marked_all used borders) n
to_marked [] used n among low = absurd among
to_marked (border ∷ borders) used n (inl here) low =
    marked_stays (set used border true) borders n
    (subst (λ (m : ℕ). IsMarked (set used m true) n) (sym here) (set_here used n low))
to_marked (border ∷ borders) used n (inr later) low =
    to_marked borders (set used border true) n later (omega (arith, low, length-set used border true))

marked_by : (used : List Bool) (borders others : List ℕ)
    → ((border : ℕ) → IsAmong border borders → IsAmong border others) → (n : ℕ) → IsMarked (marked_all used borders) n
    → IsMarked (marked_all used others) n
marked_by used borders others each n marked =
    let low : n < length used = omega (
      arith,
      marked_low (marked_all used borders) n marked,
      length_marked used
          borders,
    ) in
    elim (from_marked borders used n marked) [
      | inl among ↦ to_marked others used n (each n among) low
      | inr before ↦ marked_stays used others n before
    ]

pub crossed_marks : (used : List Bool) (borders : List ℕ) → BordersFit borders
    → marked_all used (numbers_in (marked_all none_used borders)) ≡ marked_all used borders
crossed_marks used borders fit =
    let crossed : List ℕ = numbers_in (marked_all none_used borders) in
    same_marks (marked_all used crossed) (marked_all used borders)
    (length_marked used crossed ∙ sym (length_marked used borders))
    (λ n. (
      marked_by used crossed borders (λ border. (crossed_are borders fit border).0) n,
      marked_by used borders crossed (λ border. (crossed_are borders fit border).1) n,
    ))
