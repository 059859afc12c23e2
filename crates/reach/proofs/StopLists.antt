-- Stops as marks, and lists of stops in order.
use Rattle.std.proofs.Common.{◌≡◌, ℕ, zero, suc, Bool, true, false, inl, inr, List, [], ◌∷◌, ◌++◌, length}
use Rattle.std.proofs.Common.{get_or, set, replicate, refl, ap, ◌∙◌, subst, arith, get_or-set_same, length-set}
use Rattle.std.proofs.lemmas.List.{length-replicate}
use Rattle.std.specs.List.{AllByRecursion}
use Rattle.map_tables.specs.declared.place.Stop.{Stop}
use Rattle.reach.specs.Position.{IsAmong}
use Rattle.reach.specs.Reached.{stop_order}
use Rattle.reach.specs.Stops.{marks_of}
use Rattle.reach.proofs.Collected.{none_marked}
use Rattle.reach.proofs.Marking.{set_cases, set_keeps}
use Rattle.reach.proofs.Spots.{order_low, same_order}

-- there is a mark for each stop of the map
pub marks_long : (stops : List Stop) → length (marks_of stops) ≡ 186
marks_long [] = length-replicate 186 false
marks_long (stop ∷ stops) = length-set (marks_of stops) (stop_order stop) true ∙ marks_long stops

-- two marks may be made in either order
set_either : (marks : List Bool) (n m : ℕ) → set (set marks n true) m true ≡ set (set marks m true) n true
set_either [] n m = refl
set_either (mark ∷ marks) zero zero = refl
set_either (mark ∷ marks) zero (suc m) = refl
set_either (mark ∷ marks) (suc n) zero = refl
set_either (mark ∷ marks) (suc n) (suc m) = ap (λ rest. mark ∷ rest) (set_either marks n m)

-- one more stop is marked
pub marks_push : (stops : List Stop) (stop : Stop)
    → marks_of (stops ++ stop ∷ []) ≡ set (marks_of stops) (stop_order stop) true
marks_push [] stop = refl
marks_push (first ∷ stops) stop =
    ap (λ marks. set marks (stop_order first) true) (marks_push stops stop)
    ∙ set_either (marks_of stops) (stop_order stop) (stop_order first)

-- a stop is marked if it is one of them
pub among_mark : (stops : List Stop) (stop : Stop) → get_or (marks_of stops) (stop_order stop) false ≡ true
    → IsAmong stop stops
among_mark [] stop is = absurd (let off : get_or (replicate 186 false) (stop_order stop) false ≡ false =
    none_marked 186 (stop_order stop) in cc)
among_mark (first ∷ stops) stop is =
    elim (set_cases (marks_of stops) (stop_order first) (stop_order stop) is) [
      | inl same ↦ inl (same_order first stop same)
      | inr before ↦ inr (among_mark stops stop before)
    ]

-- and only then
pub mark_among : (stops : List Stop) (stop : Stop) → IsAmong stop stops
    → get_or (marks_of stops) (stop_order stop) false ≡ true
mark_among [] stop among = absurd among
mark_among (first ∷ stops) stop (inl same) =
    subst (λ (s : Stop). get_or (set (marks_of stops) (stop_order first) true) (stop_order s) false ≡ true) same
    (get_or-set_same (marks_of stops) (stop_order first) true false (omega (arith, marks_long stops, order_low first)))
mark_among (first ∷ stops) stop (inr later) =
    set_keeps (marks_of stops) (stop_order first) (stop_order stop) (omega (arith, marks_long stops, order_low first))
    (mark_among stops stop later)

-- what holds of all holds of each
pub all_each : {A : Type 0} (P : A → Type 0) (things : List A) (thing : A) → AllByRecursion P things
    → IsAmong thing things → P thing
all_each P [] thing all among = absurd among
all_each P (first ∷ things) thing all (inl same) = subst P same all.0
all_each P (first ∷ things) thing all (inr later) = all_each P things thing all.1 later
