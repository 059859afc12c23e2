-- How the bound of a node falls: the values of reached stops that are still to come are fewer by
-- the stop that a run visits next.
use Rattle.std.proofs.Common.{◌≡◌, ℕ, zero, suc, ◌+◌, ◌-◌, ◌≤◌, ◌==◌, Bool, true, false, ◌||◌, inl, inr, Option, Some}
use Rattle.std.proofs.Common.{None, if◌then◌else◌, List, [], ◌∷◌, length, refl, sym, subst, arith}
use Rattle.std.proofs.lemmas.Bool.{eq-eqb}
use Rattle.map_tables.specs.declared.place.Stop.{Stop}
use Rattle.reach.specs.Position.{Position, IsAmong, value_of}
use Rattle.reach.specs.Reached.{stop_order}
use Rattle.tables.specs.Train.{stops_of}
use Rattle.tables.specs.declared.rolling_stock.Kind.{Kind}
use Rattle.legal_runs.specs.Fault.{has_stop}
use Rattle.legal_runs.specs.Legal.{AreAtMost}
use Rattle.certificate.specs.Tree.{greatest_sum, may_earn, new_values, still_to_come, total}

-- these values sum up to no more than those, however many are taken
abbrev AreLess : List ℕ → List ℕ → Type 0
AreLess values others = (count : ℕ) → greatest_sum count values ≤ greatest_sum count others

less_both : (value : ℕ) (values others : List ℕ) → AreLess values others → AreLess (value ∷ values) (value ∷ others)
less_both value values others less zero = omega arith
less_both value values others less (suc count) =
    let here : greatest_sum count values ≤ greatest_sum count others = less count in
    let later : greatest_sum (suc count) values ≤ greatest_sum (suc count) others = less (suc count) in
    omega arith

less_more : (value : ℕ) (values others : List ℕ) → AreLess values others → AreLess values (value ∷ others)
less_more value values others less zero = omega arith
less_more value values others less (suc count) =
    let later : greatest_sum (suc count) values ≤ greatest_sum (suc count) others = less (suc count) in omega arith

-- with one more value
abbrev AreLessBy : ℕ → List ℕ → List ℕ → Type 0
AreLessBy value values others = (count : ℕ) → value + greatest_sum count values ≤ greatest_sum (suc count) others

first_by : (value : ℕ) (values others : List ℕ) → AreLess values others → AreLessBy value values (value ∷ others)
first_by value values others less count = let here : greatest_sum count values ≤ greatest_sum count others =
    less count in omega arith

by_both : (value other : ℕ) (values others : List ℕ) → AreLessBy value values others
    → AreLessBy value (other ∷ values) (other ∷ others)
by_both value other values others less zero = let here : value + greatest_sum zero values
    ≤ greatest_sum (suc zero) others = less zero in omega arith
by_both value other values others less (suc count) =
    let here : value + greatest_sum count values ≤ greatest_sum (suc count) others = less count in
    let later : value + greatest_sum (suc count) values ≤ greatest_sum (suc (suc count)) others = less (suc count) in
    omega arith

by_more : (value other : ℕ) (values others : List ℕ) → AreLessBy value values others
    → AreLessBy value values (other ∷ others)
by_more value other values others less count =
    let later : value + greatest_sum count values ≤ greatest_sum (suc count) others = less count in omega arith

module _ (position : Position) (stop : Stop) (stops : List Stop) where
  abbrev here : List Stop → List ℕ
  here reached = new_values position stops reached

  abbrev after : List Stop → List ℕ
  after reached = new_values position (stop ∷ stops) reached

  -- once a stop is visited there are fewer new ones
  fewer : (reached : List Stop) → AreLess (after reached) (here reached)
  fewer [] = λ count. omega arith
  fewer (first ∷ reached) = by_tests (stop_order stop == stop_order first) (has_stop first stops) (fewer reached)
    where
      by_tests :
          (b c : Bool) → AreLess (after reached) (here reached) →
          AreLess (if b || c then after reached else value_of position first ∷ after reached)
          (if c then here reached else value_of position first ∷ here reached)
      by_tests true true less = less
      by_tests true false less = less_more (value_of position first) (after reached) (here reached) less
      by_tests false true less = less
      by_tests false false less = less_both (value_of position first) (after reached) (here reached) less

  fewer_total : (reached : List Stop) → total (after reached) ≤ total (here reached)
  fewer_total [] = omega arith
  fewer_total (first ∷ reached) = by_tests (stop_order stop == stop_order first) (has_stop first stops)
      (fewer_total reached)
    where
      by_tests :
          (b c : Bool) → total (after reached) ≤ total (here reached) →
          total (if b || c then after reached else value_of position first ∷ after reached)
          ≤ total (if c then here reached else value_of position first ∷ here reached)
      by_tests true true less = less
      by_tests true false less = omega arith
      by_tests false true less = less
      by_tests false false less = omega arith

  same_stop : stop_order stop == stop_order stop ≡ true
  same_stop = eq-eqb (stop_order stop) (stop_order stop) refl

  -- by that stop, where it was one of them
  fewer_by : has_stop stop stops ≡ false → (reached : List Stop) → IsAmong stop reached
      → AreLessBy (value_of position stop) (after reached) (here reached)
  fewer_by new [] among = absurd among
  fewer_by new (first ∷ reached) (inl is) =
      subst (λ (s : Stop). AreLessBy (value_of position stop) (after (s ∷ reached)) (here (s ∷ reached))) (sym is)
      (by_tests (stop_order stop == stop_order stop) (has_stop stop stops) same_stop new)
    where
      by_tests :
          (b c : Bool) → b ≡ true → c ≡ false →
          AreLessBy (value_of position stop) (if b || c then after reached else value_of position stop
          ∷ after reached) (if c then here reached else value_of position stop ∷ here reached)
      by_tests true false is also = first_by (value_of position stop) (after reached) (here reached) (fewer reached)
      by_tests true true is also = absurd cc
      by_tests false c is also = absurd cc
  fewer_by new (first ∷ reached) (inr later) = by_tests (stop_order stop == stop_order first) (has_stop first stops)
      (fewer_by new reached later)
    where
      by_tests :
          (b c : Bool) → AreLessBy (value_of position stop) (after reached) (here reached) →
          AreLessBy (value_of position stop) (if b || c then after reached else value_of position first
          ∷ after reached) (if c then here reached else value_of position first ∷ here reached)
      by_tests true true less = less
      by_tests true false less = by_more (value_of position stop) (value_of position first) (after reached)
          (here reached) less
      by_tests false true less = less
      by_tests false false less = by_both (value_of position stop) (value_of position first) (after reached)
          (here reached) less

  fewer_total_by :
      has_stop stop stops ≡ false → (reached : List Stop) → IsAmong stop reached →
      value_of position stop + total (after reached) ≤ total (here reached)
  fewer_total_by new [] among = absurd among
  fewer_total_by new (first ∷ reached) (inl is) =
      subst (λ (s : Stop). value_of position stop + total (after (s ∷ reached)) ≤ total (here (s ∷ reached))) (sym is)
      (by_tests (stop_order stop == stop_order stop) (has_stop stop stops) same_stop new)
    where
      by_tests :
          (b c : Bool) → b ≡ true → c ≡ false →
          value_of position stop + total (if b || c then after reached else value_of position stop ∷ after reached)
          ≤ total (if c then here reached else value_of position stop ∷ here reached)
      by_tests true false is also = omega (arith, fewer_total reached)
      by_tests true true is also = absurd cc
      by_tests false c is also = absurd cc
  fewer_total_by new (first ∷ reached) (inr later) =
      by_tests (stop_order stop == stop_order first) (has_stop first stops) (fewer_total_by new reached later)
    where
      by_tests :
          (b c : Bool) → value_of position stop + total (after reached) ≤ total (here reached) →
          value_of position stop + total (if b || c then after reached else value_of position first ∷ after reached)
          ≤ total (if c then here reached else value_of position first ∷ here reached)
      by_tests true true less = less
      by_tests true false less = omega arith
      by_tests false true less = less
      by_tests false false less = omega arith

  -- a train with room for one more stop
  pub one_stop_more :
      (kind : Kind) (reached : List Stop) → has_stop stop stops ≡ false → IsAmong stop reached
      → AreAtMost (stops_of kind) (suc (length stops)) →
      value_of position stop + may_earn position reached kind (stop ∷ stops) ≤ may_earn position reached kind stops
  one_stop_more kind reached new among room = by_most (stops_of kind) room
    where
      by_most :
          (most : Option ℕ) → AreAtMost most (suc (length stops)) →
          value_of position stop + still_to_come most (suc (length stops)) (after reached)
          ≤ still_to_come most (length stops) (here reached)
      by_most None room = fewer_total_by new reached among
      by_most (Some most) room =
          let left : most - length stops ≡ suc (most - suc (length stops)) = omega arith in
          subst (λ (n : ℕ). value_of position stop + greatest_sum (most - suc (length stops)) (after reached)
          ≤ greatest_sum n (here reached)) (sym left)
          (fewer_by new reached among (most - suc (length stops)))
