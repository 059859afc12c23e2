-- What is done with the set of some borders is done with each of them.
use Rattle.std.proofs.Common.{◌≡◌, ◌↔◌, ℕ, zero, suc, Bool, true, false, ◌⊎◌, inl, inr, Option, None, Some, List, []}
use Rattle.std.proofs.Common.{◌∷◌, length, get_or, set, refl, sym, ap, ◌∙◌, length-set}
use Rattle.std.proofs.lemmas.Bool.{true_from_ne_false}
use Rattle.reach.specs.Position.{IsAmong}
use Rattle.search_task.specs.Crossed.{IsShared, cleared_all, marked_all, misses, numbers_in}
use Rattle.search_task.specs.Marks.{AreApart, AreBoth, AreOnly, Freer, IsMarked, IsOneOf}
use Rattle.search_task.proofs.Marked.{cleared_fewer, cleared_here, free_misses, freer_marked, marks_more, misses_free}
use Rattle.search_task.proofs.Marks.{length_marked}
use Rattle.search_task.proofs.MarkedNumbers.{in_set, numbers_fit}
use Rattle.search_task.proofs.Words.{same_marks}
use Rattle.search_task.proofs.Booleans.{not_both}
use Rattle.tables.proofs.Tests.{same_bool}

-- none of them is used
pub set_misses : (used marks : List Bool) (apart : Bool) → (apart ≡ true → AreApart used marks)
    → (apart ≡ false → AreApart used marks → ⊥) → apart ≡ misses used (numbers_in marks)
set_misses used marks apart are meet =
    same_bool apart (misses used (numbers_in marks))
    (λ holds. free_misses used (numbers_in marks) (λ border among marked. are holds border marked
    ((in_set marks border).1 among)))
    (λ free. true_from_ne_false apart (λ none. meet none (λ border first second. misses_free used (numbers_in marks) free border
    ((in_set marks border).0 second) first)))

-- they are used as well
pub set_marked : (used marks both : List Bool) → length marks ≡ 279 → length used ≡ 279 → AreBoth used marks both
    → both ≡ marked_all used (numbers_in marks)
set_marked used marks both all whole are =
    let borders : List ℕ = numbers_in marks in
    same_marks both (marked_all used borders) (are.whole ∙ sym (length_marked used borders)) (λ border.
    let of : IsMarked (marked_all used borders) border ↔ (IsAmong border borders ⊎ IsMarked used border) =
    marks_more used borders (numbers_fit marks all) whole border in (
      λ marked. of.1 (elim ((are.each border).0 marked)
          [ inl before ↦ inr before | inr new ↦ inl ((in_set marks border).0 new) ]),
      λ marked. (are.each border).1 (elim (of.0 marked)
          [ inl among ↦ inr ((in_set marks border).1 among) | inr before ↦ inl before ]),
    ))

length_cleared : (borders : List ℕ) (marks : List Bool) → length (cleared_all marks borders) ≡ length marks
length_cleared [] marks = refl
length_cleared (border ∷ borders) marks =
    length_cleared borders (set marks border false) ∙ length-set marks border false

unset_other : (marks : List Bool) (n m : ℕ) → (n ≡ m → ⊥) → IsMarked marks m → IsMarked (set marks n false) m
unset_other [] n m other is = is
unset_other (mark ∷ marks) zero zero other is = absurd (other refl)
unset_other (mark ∷ marks) zero (suc m) other is = is
unset_other (mark ∷ marks) (suc n) zero other is = is
unset_other (mark ∷ marks) (suc n) (suc m) other is = unset_other marks n m (λ same. other (ap suc same)) is

cleared_other : (borders : List ℕ) (marks : List Bool) (border : ℕ) → (IsAmong border borders → ⊥)
    → IsMarked marks border → IsMarked (cleared_all marks borders) border
cleared_other [] marks border none is = is
cleared_other (first ∷ borders) marks border none is =
    cleared_other borders (set marks first false) border (λ among. none (inr among))
    (unset_other marks first border (λ same. none (inl same)) is)

-- their marks are taken away
pub set_cleared : (old marks new : List Bool) → AreOnly old marks new → new ≡ cleared_all old (numbers_in marks)
set_cleared old marks new only =
    let borders : List ℕ = numbers_in marks in
    same_marks new (cleared_all old borders) (only.whole ∙ sym (length_cleared borders old)) (λ border. (
      λ marked. let left = (only.each border).0 marked in
          cleared_other borders old border (λ among. left.1 ((in_set marks border).1 among)) left.0,
      λ marked. (only.each border).1 (
        cleared_fewer borders old border marked,
        λ other. cleared_here borders old
            border ((in_set marks border).0 other) marked,
      ),
    ))

-- all of them are among others
pub set_within : (marks others : List Bool) → Freer others marks → (border : ℕ) → IsAmong border (numbers_in marks)
    → IsAmong border (numbers_in others)
set_within marks others freer border among =
    (in_set others border).0 (freer_marked others marks border freer ((in_set marks border).1 among))

-- no border is one of both
pub set_apart : (marks others : List Bool) → AreApart marks others → (border : ℕ) → IsAmong border (numbers_in marks)
    → IsAmong border (numbers_in others) → ⊥
set_apart marks others apart border first second =
    apart border ((in_set marks border).1 first) ((in_set others border).1 second)

-- what is left where what is left of one without the other is taken away
pub set_shared : (marks others rest shared : List Bool) (answer : Option ℕ) → AreOnly marks others rest
    → AreOnly marks rest shared → IsOneOf shared answer → IsShared (numbers_in marks) (numbers_in others) answer
set_shared marks others rest shared None one two none =
    λ border first second. none border ((two.each border).1
    ((in_set marks border).1 first, λ left. ((one.each border).0 left).1 ((in_set others border).1 second)))
set_shared marks others rest shared (Some border) one two marked =
    let left = (two.each border).0 marked in
    let met : IsMarked others border = true_from_ne_false (get_or others border false)
    (λ not. left.1 ((one.each border).1 (left.0, λ is. not_both (get_or others border false) is not))) in
    ((in_set marks border).0 left.0, (in_set others border).0 met)
