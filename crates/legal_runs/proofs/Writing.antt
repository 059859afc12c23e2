-- A run is written from its first step on: the places of the steps so far are before those of the
-- steps that are left.
use Rattle.std.proofs.Common.{◌≡◌, ℕ, ◌-◌, ◌≤◌, ◌<◌, Option, List, [], ◌∷◌, ◌++◌, length, get_or, refl, sym, ap, ◌∙◌}
use Rattle.std.proofs.Common.{arith}
use Rattle.std.proofs.lemmas.List.{append-nil, append_assoc, length-append}
use Rattle.map_tables.specs.declared.place.Place.{Place}
use Rattle.reach.specs.Walk.{begins_at, entered_at, left_at}
use Rattle.reach.specs.declared.walk.Spot.{Spot}
use Rattle.reach.specs.declared.walk.WalkStep.{WalkStep}
use Rattle.legal_runs.specs.Legal.{listed}
use Rattle.legal_runs.specs.Written.{place_at, place_over, places_of, places_over}

-- the first step is last, and says where the walk begins
begins_last : (step other : WalkStep) (before : List WalkStep)
    → entered_at (get_or (step ∷ before) (length before) other) ≡ begins_at step before
begins_last step other [] = refl
begins_last step other (earlier ∷ before) = begins_last earlier other before

pub begun_with :
    (steps : List WalkStep) (other : WalkStep) → 2 ≤ length (places_of steps) →
    place_at (entered_at (get_or steps (length steps - 1) other)) ∷ places_over steps ≡ places_of steps
begun_with [] other least = absurd (omega (arith, least))
begun_with (step ∷ before) other least =
    let last : length (step ∷ before) - 1 ≡ length before = omega arith in
    ap (λ (spot : Spot). place_at spot ∷ places_over (step ∷ before))
    (ap (λ (n : ℕ). entered_at (get_or (step ∷ before) n other)) last ∙ begins_last step other before)

-- the first step of those that are left gives their first place
first_of_rest :
    (rest : List WalkStep) (step : WalkStep) → places_over (rest ++ (step ∷ []))
    ≡ listed (place_over (entered_at step).end (left_at step)) ++ places_over rest
first_of_rest [] step = sym (append-nil (listed (place_over (entered_at step).end (left_at step))))
first_of_rest (last ∷ rest) step =
    ap (λ places. places ++ listed (place_over (entered_at last).end (left_at last))) (first_of_rest rest step)
    ∙ append_assoc (listed (place_over (entered_at step).end (left_at step))) (places_over rest)
    (listed (place_over (entered_at last).end (left_at last)))

-- a step further
pub step_further :
    (places all : List Place) (place : Option Place) (left rest : List WalkStep) (step : WalkStep)
    → left ≡ rest ++ (step ∷ []) →
    place ≡ place_over (entered_at step).end (left_at step) → places ++ places_over left ≡ all
    → places ++ listed place ++ places_over rest ≡ all
step_further places all place left rest step ends is so_far =
    append_assoc places (listed place) (places_over rest)
    ∙ ap (λ later. places ++ later) (ap (λ p. listed p ++ places_over rest) is ∙ sym (first_of_rest rest step)
    ∙ ap places_over (sym ends)) ∙ so_far

-- there is room for one more place
pub room_for : (places all later : List Place) (place : Place) → places ++ (place ∷ []) ++ later ≡ all
    → length all ≤ 280 → length places < 280
room_for places all later place so_far few =
    omega (
      arith,
      length-append (places ++ (place ∷ [])) later,
      length-append places (place ∷ []),
      ap length so_far,
      few,
    )
