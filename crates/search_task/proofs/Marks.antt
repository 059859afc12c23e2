-- Marks of borders: marking some, and what is left unmarked.
use Rattle.std.proofs.Common.{◌≡◌, ℕ, zero, suc, ◌+◌, ◌<◌, ◌≤◌, Bool, true, false, not, ◌||◌, List, [], ◌∷◌, length}
use Rattle.std.proofs.Common.{get_or, set, refl, ◌∙◌, arith, length-set}
use Rattle.std.specs.List.{list_any}
use Rattle.legal_runs.proofs.Earning.{mark_used}
use Rattle.legal_runs.specs.Law.{unused}
use Rattle.search_task.specs.Fit.{BordersFit}
use Rattle.search_task.specs.Crossed.{marked_all, misses}

-- a mark leaves no more unset
set_most : (marks : List Bool) (border : ℕ) → unused (set marks border true) ≤ unused marks
set_most [] border = omega arith
set_most (mark ∷ marks) zero = omega arith
set_most (mark ∷ marks) (suc border) = let rest = set_most marks border in omega arith

pub marked_most : (used : List Bool) (borders : List ℕ) → unused (marked_all used borders) ≤ unused used
marked_most used [] = omega arith
marked_most used (border ∷ borders) =
    omega (arith, marked_most (set used border true) borders, set_most used border)

pub length_marked : (used : List Bool) (borders : List ℕ) → length (marked_all used borders) ≡ length used
length_marked used [] = refl
length_marked used (border ∷ borders) = length_marked (set used border true) borders ∙ length-set used border true

first_free : (a b : Bool) → not (a || b) ≡ true → a ≡ false
first_free true b is = absurd cc
first_free false b is = refl

-- new marks leave at least one fewer
pub marked_fewer : (used : List Bool) (borders : List ℕ) → length used ≡ 279 → BordersFit borders → 0 < length borders
    → misses used borders ≡ true → unused (marked_all used borders) + 1 ≤ unused used
marked_fewer used [] whole fit some free = absurd (omega arith)
marked_fewer used (border ∷ borders) whole fit some free =
    let one : unused (set used border true) + 1 ≡ unused used =
    mark_used used border (omega (arith, fit.0)) (first_free (get_or used border false)
    (list_any (λ b. get_or used b false) borders) free) in
    omega (arith, marked_most (set used border true) borders)
