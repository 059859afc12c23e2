-- What the tally keeps of a walk is what the tests find in it.
use Rattle.legal_runs.specs.Fault.{has_border}
use Rattle.std.specs.Option.{option_map_or}
use Rattle.std.proofs.Common.{◌≡◌, ◌↔◌, ℕ, ◌+◌, ◌-◌, ◌*◌, ◌<◌, ◌≤◌, Bool, true, false, ltb, eqb, ◌||◌, ◌⊎◌, inl, inr}
use Rattle.std.proofs.Common.{if◌then◌else◌, Option, Some, None, List, [], ◌∷◌, ◌++◌, length, get_or, set, replicate}
use Rattle.std.proofs.Common.{refl, ◌∙◌, arith, get_or-set_same, get_or-set_other, length-set}
use Rattle.std.specs.List.{AllByRecursion, list_any}
use Rattle.std.proofs.lemmas.Bool.{cases_eq, eq-eqb, ltb-false, ltb-true, or_cases, ne_eqb}
use Rattle.std.proofs.Math.Bool.{or_comm}
use Rattle.map_tables.specs.Border.{neighbour_of}
use Rattle.map_tables.specs.Hex.{index_of}
use Rattle.map_tables.specs.Side.{number_of}
use Rattle.map_tables.specs.declared.hex.Hex.{Hex}
use Rattle.map_tables.specs.declared.place.Stop.{Stop}
use Rattle.map_tables.specs.declared.side.Side.{Side}
use Rattle.map_tables.specs.declared.track.TrackEnd.{TrackEnd}
use Rattle.map_tables.specs.declared.track.TrackEnd.TheVariants.{Side as AtSide, Stop as AtStop}
use Rattle.reach.specs.Position.{IsAmong, Position, is_red}
use Rattle.reach.specs.Reached.{stop_order}
use Rattle.reach.specs.Walk.{entered_at, left_at, stop_of}
use Rattle.reach.specs.declared.walk.WalkStep.{WalkStep}
use Rattle.reach.proofs.Hexes.{index_low, side_low}
use Rattle.reach.proofs.Collected.{none_marked}
use Rattle.reach.proofs.Spots.{order_low}
use Rattle.tables.specs.declared.roster.Company.{Company}
use Rattle.legal_runs.specs.Fault.{has_border_twice, has_stop, has_stop_twice, has_token_at_stop}
use Rattle.legal_runs.specs.Fault.{is_full, passes}
use Rattle.legal_runs.specs.Law.{CrossedBordersAreUsed}
use Rattle.legal_runs.specs.Legal.{border_at, border_beyond, border_of, crossed, first_stop, listed, visited, worth}
use Rattle.legal_runs.specs.Marks.{AreAdded, IsUsed, MarksAre, borders_used, marked}
use Rattle.legal_runs.specs.Tally.{counted, crossing, entering, entering_side, entering_stop, leaving_stop, no_steps}
use Rattle.legal_runs.specs.Tally.{passing, tally_of, visiting}
use Rattle.legal_runs.specs.declared.tally.Tally.{Tally}
use Rattle.legal_runs.proofs.Marks.{among_both, among_is, mark_listed, used_is}

-- each border has a number below 279
beyond_low : (number : ℕ) (hex : Option Hex) → number < 3 → border_beyond number hex < 279
beyond_low number None low = omega arith
beyond_low number (Some hex) low = omega (arith, index_low hex)

border_by : (test : Bool) (near : ℕ) (beyond : ℕ) → (test ≡ true → near < 279) → (test ≡ false → beyond < 279)
    → (if test then near else beyond) < 279
border_by true near beyond first second = first refl
border_by false near beyond first second = second refl

pub border_low : (hex : Hex) (side : Side) → border_of hex side < 279
unfolding border_of
border_low hex side =
    border_by (ltb (number_of side) 3) (3 * index_of hex + number_of side)
    (border_beyond (number_of side - 3) (neighbour_of hex side))
    (λ near. let low : number_of side < 3 = ltb-true (number_of side) 3 near in omega (arith, index_low hex))
    (λ far. beyond_low (number_of side - 3) (neighbour_of hex side)
    (omega (arith, side_low side, ltb-false (number_of side) 3 far)))

or_inside : (a b c : Bool) → (a || (b || c)) ≡ (b || (a || c))
or_inside true true c = refl
or_inside true false c = refl
or_inside false b c = refl

or_not_here : (a b c : Bool) → a ≡ false → b ≡ c → b ≡ (a || c)
or_not_here true b c is same = cc
or_not_here false b c is same = same

-- one more mark
pub mark_more : (marks : List Bool) (n m : ℕ) → n < length marks
    → get_or (set marks n true) m false ≡ (eqb n m || get_or marks m false)
mark_more marks n m low = grind (arith, or_not_here, low, get_or-set_same, get_or-set_other, cases_eq, eq-eqb, ne_eqb)

pub length_marked : (used : List Bool) (borders : List ℕ) → length (marked used borders) ≡ length used
length_marked used [] = refl
length_marked used (border ∷ borders) = length-set (marked used borders) border true ∙ length_marked used borders

-- a border is marked where it was used or crossed
pub marked_is : (used : List Bool) (borders : List ℕ) (border : ℕ) → AllByRecursion (λ b. b < length used) borders
    → get_or (marked used borders) border false ≡ (has_border border (borders_used used) || has_border border borders)
marked_is used [] border low = grind (arith, or_comm, mark_listed)
marked_is used (other ∷ borders) border low = grind (arith, or_inside, mark_more, length_marked, low, marked_is used borders border low.1)

-- whether a walk has a step
abbrev pub has_begun : List WalkStep → Bool
has_begun [] = false
has_begun (step ∷ before) = true

length_none : length (replicate 186 false) ≡ 186
length_none = refl

module _ (position : Position) (company : Company) (used : List Bool) where
  -- what a tally keeps: of stops visited and borders crossed, and what was passed
  pub record Keeps (tally : Tally) (begun : Bool) (stops : List Stop) (borders : List ℕ) (full red : Bool) : Type
      0 where
    pub begun_is : tally.begun ≡ begun
    pub stops_are : tally.stops ≡ length stops
    pub value_is : tally.value ≡ worth position stops
    pub seen_all : length tally.seen ≡ 186
    pub seen_is : (stop : Stop) → get_or tally.seen (stop_order stop) false ≡ has_stop stop stops
    pub stop_twice_is : tally.stop_twice ≡ has_stop_twice stops
    pub crossed_is : tally.crossed ≡ marked used borders
    pub borders_low : AllByRecursion (λ b. b < length used) borders
    pub border_twice_is : tally.border_twice ≡ has_border_twice (borders_used used) borders
    pub full_is : tally.passes_full ≡ full
    pub own_is : tally.own_token ≡ list_any (has_token_at_stop position company) stops
    pub red_is : tally.red_inside ≡ red

  -- a stop is visited
  visiting_keeps : (tally : Tally) (stop : Stop) (begun : Bool) (stops : List Stop) (borders : List ℕ)
      (full red : Bool) → Keeps tally begun stops borders full red
      → Keeps (visiting position company tally stop) begun (stop ∷ stops) borders full red
  unfolding visiting
  visiting_keeps tally stop begun stops borders full red kept = grind (arith, or_comm, mark_more, length-set, order_low)

  -- a stop is passed
  passing_keeps : (tally : Tally) (stop : Stop) (begun : Bool) (stops : List Stop) (borders : List ℕ)
      (full red : Bool) → Keeps tally begun stops borders full red
      → Keeps (passing position company tally stop) begun stops borders (full || is_full position company stop)
      (red || is_red position stop)
  unfolding passing
  passing_keeps tally stop begun stops borders full red kept = grind arith

  -- a border is crossed
  crossing_keeps : (tally : Tally) (border : ℕ) (begun : Bool) (stops : List Stop) (borders : List ℕ)
      (full red : Bool) → border < length used → Keeps tally begun stops borders full red
      → Keeps (crossing tally border) begun stops (border ∷ borders) full red
  unfolding crossing
  crossing_keeps tally border begun stops borders full red low kept = grind (arith, marked_is, low)

  -- the side at which a step is entered
  side_keeps : 279 ≤ length used → (tally : Tally) (hex : Hex) (end : TrackEnd) (begun : Bool) (stops : List Stop)
      (borders : List ℕ) (full red : Bool) → Keeps tally begun stops borders full red
      → Keeps (entering_side tally hex end) begun stops (border_at hex end ++ borders) full red
  side_keeps whole tally hex (AtSide side) begun stops borders full red kept =
      crossing_keeps tally (border_of hex side) begun stops borders full red (omega (arith, border_low hex side)) kept
  side_keeps whole tally hex (AtStop number) begun stops borders full red kept = kept

  -- the stop at which the first step is entered, and at which a later one is
  chosen : (begun : Bool) (passed visited : Tally) (is : Bool) → is ≡ begun → (P : Tally → Type 0)
      → (begun ≡ true → P passed) → (begun ≡ false → P visited) → P (if is then passed else visited)
  chosen true passed visited true is P first second = first refl
  chosen false passed visited false is P first second = second refl
  chosen true passed visited false is P first second = cc
  chosen false passed visited true is P first second = cc

  first_keeps : (tally : Tally) (stop : Option Stop) (stops : List Stop) (borders : List ℕ) (full red : Bool)
      → Keeps tally false stops borders full red → Keeps (entering_stop position company tally stop) false
      (listed stop ++ stops) borders full red
  first_keeps tally None stops borders full red kept = kept
  first_keeps tally (Some stop) stops borders full red kept =
      chosen false (passing position company tally stop) (visiting position company tally stop) tally.begun
      kept.begun_is
      (λ (t : Tally). Keeps t false (stop ∷ stops) borders full red) (λ wrong. cc)
      (λ is. visiting_keeps tally stop false stops borders full red kept)

  or_none : (a : Bool) → a ≡ (a || false)
  or_none true = refl
  or_none false = refl

  later_keeps : (tally : Tally) (stop : Option Stop) (stops : List Stop) (borders : List ℕ) (full red : Bool)
      → Keeps tally true stops borders full red → Keeps (entering_stop position company tally stop) true stops borders
      (full || option_map_or (is_full position company) stop false) (red || option_map_or (is_red position) stop false)
  later_keeps tally None stops borders full red kept = grind (arith, or_none)
  later_keeps tally (Some stop) stops borders full red kept =
      chosen true (passing position company tally stop) (visiting position company tally stop) tally.begun kept.begun_is
      (λ (t : Tally). Keeps t true stops borders (full || is_full position company stop)
      (red || is_red position stop)) (λ is. passing_keeps tally stop true stops borders full red kept) (λ wrong. cc)

  -- a step is left
  left_keeps : (tally : Tally) (stop : Option Stop) (begun : Bool) (stops : List Stop) (borders : List ℕ)
      (full red : Bool) → Keeps tally begun stops borders full red
      → Keeps (leaving_stop position company tally stop) begun (listed stop ++ stops) borders full red
  left_keeps tally None begun stops borders full red kept = kept
  left_keeps tally (Some stop) begun stops borders full red kept =
      visiting_keeps tally stop begun stops borders full red kept

  begun_now : (tally : Tally) (begun : Bool) (stops : List Stop) (borders : List ℕ) (full red : Bool)
      → Keeps tally begun stops borders full red → Keeps (record tally { begun = true }) true stops borders full red
  begun_now tally begun stops borders full red kept = grind arith

  -- a step entered, the first of a walk or a later one
  entered_keeps : 279 ≤ length used → (before : List WalkStep) (step : WalkStep) (tally : Tally)
      → Keeps tally (has_begun before) (visited before) (crossed before) (passes (is_full position company) before)
      (passes (is_red position) before) → Keeps (entering position company tally (entered_at step)) (has_begun before)
      (first_stop before step ++ visited before) (crossed (step ∷ before))
      (passes (is_full position company) (step ∷ before)) (passes (is_red position) (step ∷ before))
  entered_keeps whole [] step tally kept =
      side_keeps whole (entering_stop position company tally (stop_of (entered_at step))) (entered_at step).hex
      (entered_at step).end false (listed (stop_of (entered_at step)) ++ []) [] false false
      (first_keeps tally (stop_of (entered_at step)) [] [] false false kept)
  entered_keeps whole (earlier ∷ before) step tally kept =
      side_keeps whole (entering_stop position company tally (stop_of (entered_at step))) (entered_at step).hex
      (entered_at step).end true (visited (earlier ∷ before)) (crossed (earlier ∷ before))
      (passes (is_full position company) (step ∷ earlier ∷ before))
      (passes (is_red position) (step ∷ earlier ∷ before))
      (later_keeps tally (stop_of (entered_at step)) (visited (earlier ∷ before)) (crossed (earlier ∷ before))
      (passes (is_full position company) (earlier ∷ before)) (passes (is_red position) (earlier ∷ before)) kept)

  none_keeps : Keeps (no_steps used) false [] [] false false
  none_keeps = record {
    begun_is = refl;
    stops_are = refl;
    value_is = refl;
    seen_all = length_none;
    seen_is = λ stop. none_marked 186 (stop_order stop);
    stop_twice_is = refl;
    crossed_is = refl;
    borders_low = tt;
    border_twice_is = refl;
    full_is = refl;
    own_is = refl;
    red_is = refl;
  }

  step_keeps : 279 ≤ length used → (before : List WalkStep) (step : WalkStep)
      → Keeps (tally_of position company used before) (has_begun before) (visited before) (crossed before)
      (passes (is_full position company) before) (passes (is_red position) before)
      → Keeps (counted position company (tally_of position company used before) step) true (visited (step ∷ before))
      (crossed (step ∷ before)) (passes (is_full position company) (step ∷ before))
      (passes (is_red position) (step ∷ before))
  unfolding counted
  step_keeps whole before step kept =
      let tally : Tally = tally_of position company used before in
      let full : Bool = passes (is_full position company) (step ∷ before) in
      let red : Bool = passes (is_red position) (step ∷ before) in
      let entered : Tally = entering position company tally (entered_at step) in
      begun_now (leaving_stop position company entered (stop_of (left_at step))) (has_begun before)
      (visited (step ∷ before)) (crossed (step ∷ before)) full red
      (left_keeps entered (stop_of (left_at step)) (has_begun before) (first_stop before step ++ visited before)
      (crossed (step ∷ before)) full red
      (entered_keeps whole before step tally kept))

  -- the tally of a walk keeps what the tests find in it
  pub tally_keeps : 279 ≤ length used → (steps : List WalkStep)
      → Keeps (tally_of position company used steps) (has_begun steps) (visited steps) (crossed steps)
      (passes (is_full position company) steps) (passes (is_red position) steps)
  tally_keeps whole [] = grind (arith, none_keeps)
  tally_keeps whole (step ∷ before) = grind (arith, step_keeps, tally_keeps whole before)

low_before : (bound : ℕ) (hex : Hex) (end : TrackEnd) (borders : List ℕ) → 279 ≤ bound
    → AllByRecursion (λ b. b < bound) borders → AllByRecursion (λ b. b < bound) (border_at hex end ++ borders)
low_before bound hex (AtSide side) borders whole low = grind (arith, border_low, low)
low_before bound hex (AtStop number) borders whole low = grind (arith, low)

-- the borders that a walk crosses have low numbers
pub crossed_low : (bound : ℕ) (steps : List WalkStep) → 279 ≤ bound → AllByRecursion (λ b. b < bound) (crossed steps)
crossed_low bound [] whole = tt
crossed_low bound (step ∷ before) whole = grind (arith, low_before, crossed_low bound before whole)

is_or : (a b : Bool) → (a ≡ true) ⊎ (b ≡ true) → (a || b) ≡ true
is_or true b h = refl
is_or false b (inl h) = cc
is_or false b (inr h) = h

-- after a walk those borders are used that were used before, and those that it crosses
pub taken_is : (used borders : List ℕ) (border : ℕ)
    → ((has_border border used || has_border border borders) ≡ true) ↔ (IsAmong border borders ⊎ IsAmong border used)
taken_is used borders border = grind (arith, or_cases, is_or, among_is)

pub crossed_used : CrossedBordersAreUsed
crossed_used used marks steps are =
    record {
      for_each = length_marked marks (crossed steps) ∙ are.for_each;
      exact = λ border. after border;
    }
  where
    low : AllByRecursion (λ b. b < length marks) (crossed steps)
    low = grind (arith, crossed_low)

    after : (border : ℕ) → IsUsed (marked marks (crossed steps)) border ↔ IsAmong border (crossed steps ++ used)
    after border = grind (arith, marked_is, taken_is, low, among_both, used_is)

-- to the marked borders those were added that the walk crosses
pub crossed_added : (marks : List Bool) (steps : List WalkStep) → length marks ≡ 279
    → AreAdded (crossed steps) (borders_used marks) (borders_used (marked marks (crossed steps)))
crossed_added marks steps whole border =
    let now : MarksAre (crossed steps ++ borders_used marks) (marked marks (crossed steps)) =
    crossed_used (borders_used marks) marks steps (record { for_each = whole; exact = used_is marks }) in
    let both = among_both border (crossed steps) (borders_used marks) in
    let marks_now = used_is (marked marks (crossed steps)) border in (
      λ h. both.0 ((now.exact border).0 (marks_now.1 h)),
      λ h. marks_now.0 ((now.exact border).1 (both.1 h)),
    )
