-- Each rule of a walk is kept exactly if its fact of a legal run holds.
use Rattle.std.proofs.Common.{◌≡◌, ◌↔◌, ℕ, ◌+◌, ◌*◌, ◌<◌, ◌≤◌, ◌==◌, Bool, true, false, ◌||◌, inl, inr}
use Rattle.std.proofs.Common.{List, [], ◌∷◌, refl, ap, ◌∙◌, arith}
use Rattle.std.specs.List.{AllByRecursion, list_any}
use Rattle.std.proofs.lemmas.Bool.{eq-eqb, eqb-true, or_parts, or_from, or_cases}
use Rattle.map_tables.specs.Hex.{index_of}
use Rattle.map_tables.specs.Place.{stop_index_of}
use Rattle.map_tables.specs.declared.hex.Hex.{Hex}
use Rattle.map_tables.specs.declared.place.Stop.{Stop}
use Rattle.map_tables.specs.declared.place.StopNumber.{StopNumber}
use Rattle.reach.specs.Position.{IsAmong}
use Rattle.reach.specs.Reached.{stop_order}
use Rattle.reach.specs.Walk.{PassesBy, PassesOnly}
use Rattle.reach.specs.declared.walk.WalkStep.{WalkStep}
use Rattle.reach.proofs.Hexes.{same_index, same_stop_index, stop_index_low}
use Rattle.reach.proofs.Lists.{among_found, found_among}
use Rattle.tables.specs.Train.{stops_of}
use Rattle.tables.specs.declared.rolling_stock.Kind.{Kind}
use Rattle.legal_runs.specs.Fault.{goes_through, has_border, has_border_twice, has_stop, has_stop_twice}
use Rattle.legal_runs.specs.Fault.{is_wrong_number, passes}
use Rattle.legal_runs.specs.Legal.{AreAtMost, AreDistinct, HasSuch}
use Rattle.legal_runs.proofs.Marks.{among_is}

-- a test that is exact fails where there is no such fact
pub fails : {P : Type 0} (test : Bool) → (test ≡ true) ↔ P → (test ≡ false) ↔ (¬ P)
fails true exact = (λ h. cc, λ none. absurd (none (exact.0 refl)))
fails false exact = (λ h fact. let wrong : false ≡ true = exact.1 fact in cc, λ none. refl)

-- stops with one place in the order of the map are one
index_half : (a b x y : ℕ) → 2 * a + x ≡ 2 * b + y → x < 2 → y < 2 → a ≡ b
index_half a b x y same low below = omega arith

number_half : (a b x y : ℕ) → 2 * a + x ≡ 2 * b + y → a ≡ b → x ≡ y
number_half a b x y same is = omega arith

pub stop_is : (a b : Stop) → (stop_order a == stop_order b) ≡ true → a ≡ b
stop_is a b same =
    let order : 2 * index_of a.hex + stop_index_of a.number ≡ 2 * index_of b.hex + stop_index_of b.number =
    eqb-true (stop_order a) (stop_order b) same in
    let place : index_of a.hex ≡ index_of b.hex = index_half (index_of a.hex) (index_of b.hex)
    (stop_index_of a.number) (stop_index_of b.number) order (stop_index_low a.number) (stop_index_low b.number) in
    ap (λ (h : Hex). let s : Stop = record { hex = h; number = a.number } in s) (same_index a.hex b.hex place)
    ∙ ap (λ (n : StopNumber). let s : Stop = record { hex = b.hex; number = n } in s)
    (same_stop_index a.number b.number (number_half (index_of a.hex) (index_of b.hex) (stop_index_of a.number)
    (stop_index_of b.number) order place))

is_stop : (a b : Stop) → a ≡ b → (stop_order a == stop_order b) ≡ true
is_stop a b is = eq-eqb (stop_order a) (stop_order b) (ap stop_order is)

-- the test of a stop among stops
pub has_stop_is : (stop : Stop) (stops : List Stop) → (has_stop stop stops ≡ true) ↔ IsAmong stop stops
has_stop_is stop stops = (
  among_found (λ a b. stop_order a == stop_order b) stop_is stops stop,
  found_among
      (λ a b. stop_order a == stop_order b) is_stop stops stop,
)

-- no stop twice
pub stops_distinct : (stops : List Stop) → has_stop_twice stops ≡ false → AreDistinct stops
stops_distinct [] h = tt
stops_distinct (stop ∷ stops) h =
    let parts : (has_stop_twice stops ≡ false) × (has_stop stop stops ≡ false) =
    or_parts (has_stop_twice stops) (has_stop stop stops) h in
    ((fails (has_stop stop stops) (has_stop_is stop stops)).0 parts.1, stops_distinct stops parts.0)

pub distinct_stops : (stops : List Stop) → AreDistinct stops → has_stop_twice stops ≡ false
distinct_stops [] h = refl
distinct_stops (stop ∷ stops) h = grind (arith, fails, or_from, has_stop_is, distinct_stops stops h.1)

-- the test of a border among borders fails
not_among_is : (border : ℕ) (borders : List ℕ) → (has_border border borders ≡ false) ↔ (¬ IsAmong border borders)
not_among_is border borders = grind (arith, fails, among_is)

-- no border twice, and none that was used
pub borders_distinct : (used : List ℕ) (borders : List ℕ) → has_border_twice used borders ≡ false
    → AreDistinct borders × AllByRecursion (λ border. ¬ IsAmong border used) borders
borders_distinct used [] h = (tt, tt)
borders_distinct used (border ∷ borders) h =
    let parts : (has_border_twice used borders ≡ false) × ((has_border border used || has_border border borders) ≡ false) =
    or_parts (has_border_twice used borders) ((has_border border used || has_border border borders)) h in
    let free : (has_border border used ≡ false) × (has_border border borders ≡ false) =
    or_parts (has_border border used) (has_border border borders) parts.1 in
    let rest : AreDistinct borders × AllByRecursion (λ b. ¬ IsAmong b used) borders =
    borders_distinct used borders parts.0 in
    (((not_among_is border borders).0 free.1, rest.0), ((not_among_is border used).0 free.0, rest.1))

pub distinct_borders : (used : List ℕ) (borders : List ℕ) → AreDistinct borders
    → AllByRecursion (λ border. ¬ IsAmong border used) borders → has_border_twice used borders ≡ false
distinct_borders used [] once free = refl
distinct_borders used (border ∷ borders) once free = grind (arith, or_from, not_among_is, distinct_borders used borders once.1 free.1)

module _ (P : Stop → Type 0) (test : Stop → Bool) (exact : (stop : Stop) → (test stop ≡ true) ↔ P stop) where
  by_none : (before : List WalkStep) (step : WalkStep) → (goes_through test before step ≡ false)
      ↔ PassesBy (λ s. ¬ P s) before step
  by_none [] step = (λ h. tt, λ h. refl)
  by_none (earlier ∷ before) step = grind arith

  -- no such stop is passed
  pub passes_none : (steps : List WalkStep) → passes test steps ≡ false → PassesOnly (λ s. ¬ P s) steps
  passes_none [] h = tt
  passes_none (step ∷ before) h =
      let parts : (passes test before ≡ false) × (goes_through test before step ≡ false) =
      or_parts (passes test before) (goes_through test before step) h in
      ((by_none before step).0 parts.1, passes_none before parts.0)

  pub none_passes : (steps : List WalkStep) → PassesOnly (λ s. ¬ P s) steps → passes test steps ≡ false
  none_passes [] h = refl
  none_passes (step ∷ before) h =
      or_from (passes test before) (goes_through test before step)
      (none_passes before h.1) ((by_none before step).1 h.0)

  -- one of the stops is such
  pub has_such : (stops : List Stop) → list_any test stops ≡ true → HasSuch P stops
  has_such [] h = cc
  has_such (stop ∷ stops) h =
      elim (or_cases (test stop) (list_any test stops) h)
      [ inl here ↦ inl ((exact stop).0 here) | inr later ↦ inr (has_such stops later) ]

  pub such_has : (stops : List Stop) → HasSuch P stops → list_any test stops ≡ true
  such_has [] h = absurd h
  such_has (stop ∷ stops) (inl here) = ap (λ b. b || list_any test stops) ((exact stop).1 here)
  such_has (stop ∷ stops) (inr later) = grind (arith, such_has stops later)

pub number_is : (kind : Kind) (count : ℕ) → is_wrong_number kind count ≡ false
    → (2 ≤ count) × AreAtMost (stops_of kind) count
number_is kind count h = grind arith

pub is_number : (kind : Kind) (count : ℕ) → 2 ≤ count → AreAtMost (stops_of kind) count
    → is_wrong_number kind count ≡ false
is_number kind count least most = grind arith
