-- What is made along places: at the first place, at each next one, and after the last.
use Rattle.std.proofs.Common.{◌≡◌, ℕ, ◌+◌, ◌-◌, ◌<◌, ◌≤◌, List, [], ◌∷◌, Option, Some, None, option_map}
use Rattle.std.proofs.Common.{option_and_then, length, get_or, take, drop, refl, ap, sym, ◌∙◌, arith, add-one}
use Rattle.std.proofs.Common.{drop-cons, length-take, length-drop}
use Rattle.std.proofs.lemmas.List.{drop_all, take_all}
use Rattle.map_tables.specs.declared.place.Place.{Place}
use Rattle.map_tables.specs.declared.place.StopNumber.{StopNumber}
use Rattle.map_tables.specs.declared.track.TrackEnd.TheVariants.{Stop as AtStop}
use Rattle.reach.specs.Position.{Position}
use Rattle.reach.specs.Walk.{spot_at}
use Rattle.reach.specs.declared.walk.Spot.{Spot}
use Rattle.reach.specs.declared.walk.WalkStep.{WalkStep}
use Rattle.legal_runs.specs.Named.{arrived, beginning, leg_to, made_along, travelled, with_leg}
use Rattle.legal_runs.specs.declared.leg.Leg.{Leg}

-- what follows the first place is no longer than a run
pub rest_short : (places : List Place) → length places ≤ 280 → length (take (length places - 1) (drop 1 places)) ≤ 280
rest_short places short = omega (arith, length-take {A = Place}, length-drop {A = Place})

module _ {A : Type 0} (make : A → WalkStep → A) (position : Position) where
  -- from the stop of the first place
  pub begun_along : (places : List Place) (d : Place) (number : StopNumber) (made : A) → 2 ≤ length places
      → (get_or places 0 d).stop ≡ Some number → travelled make position
      (spot_at (get_or places 0 d).hex (AtStop number)) made (take (length places - 1) (drop 1 places))
      ≡ made_along make position made places
  begun_along [] d number made least is = absurd (omega arith)
  begun_along (place ∷ places) d number made least is = grind (arith, take_all)

  -- the place at an index comes next
  next_place : (at : Spot) (made : A) (places : List Place) (i : ℕ) (d : Place) → i < length places
      → travelled make position at made (drop i places)
      ≡ option_and_then (λ leg. travelled make position leg.at (with_leg make made leg) (drop (i + 1) places))
      (leg_to position at (get_or places i d))
  next_place at made places i d low = rw (add-one, drop-cons places i d) refl

  -- a leg further
  pub leg_further : (at : Spot) (made new : A) (places : List Place) (i : ℕ) (d : Place) (leg : Leg)
      → i < length places → leg_to position at (get_or places i d) ≡ Some leg → new ≡ with_leg make made leg
      → travelled make position leg.at new (drop (i + 1) places) ≡ travelled make position at made (drop i places)
  leg_further at made new places i d leg low is new_is =
      ap (λ made. travelled make position leg.at made (drop (i + 1) places)) new_is
      ∙ sym (next_place at made places i d low ∙ ap (option_and_then
      (λ leg. travelled make position leg.at (with_leg make made leg) (drop (i + 1) places))) is)

  -- no leg further
  pub no_leg : (at : Spot) (made : A) (places : List Place) (i : ℕ) (d : Place) → i < length places
      → leg_to position at (get_or places i d) ≡ None → travelled make position at made (drop i places) ≡ None
  no_leg at made places i d low is =
      next_place at made places i d low ∙ ap (option_and_then
      (λ leg. travelled make position leg.at (with_leg make made leg) (drop (i + 1) places))) is

  -- after the last place
  pub at_end : (at : Spot) (made : A) (places : List Place) (i : ℕ) → length places ≤ i
      → travelled make position at made (drop i places) ≡ arrived at.end made
  at_end at made places i over = ap (travelled make position at made) (drop_all i places over)

-- what is made of a walk step by step is what is made along its places
module _ {A B : Type 0} (make : A → WalkStep → A) (also : B → WalkStep → B) (of : A → B)
    (alike : (made : A) (step : WalkStep) → also (of made) step ≡ of (make made step)) (position : Position) where
  leg_alike : (made : A) (leg : Leg) → with_leg also (of made) leg ≡ of (with_leg make made leg)
  leg_alike made leg = grind arith

  travelled_alike : (at : Spot) (made : A) (places : List Place)
      → travelled also position at (of made) places ≡ option_map of (travelled make position at made places)
  travelled_alike at made [] = grind arith
  travelled_alike at made (place ∷ places) =
      by_leg (leg_to position at place) (λ leg. travelled_alike leg.at (with_leg make made leg) places)
    where
      by_leg : (found : Option Leg) → ((leg : Leg) → travelled also position leg.at (of (with_leg make made leg))
          places ≡ option_map of (travelled make position leg.at (with_leg make made leg) places))
          → option_and_then (λ leg. travelled also position leg.at (with_leg also (of made) leg) places) found
          ≡ option_map of (option_and_then (λ leg. travelled make position leg.at (with_leg make made leg) places)
          found)
      by_leg None later = refl
      by_leg (Some leg) later = ap (λ b. travelled also position leg.at b places) (leg_alike made leg) ∙ later leg

  pub made_alike : (made : A) (places : List Place)
      → made_along also position (of made) places ≡ option_map of (made_along make position made places)
  made_alike made [] = refl
  made_alike made (place ∷ places) = by_spot (beginning place)
    where
      by_spot : (found : Option Spot) → option_and_then (λ at. travelled also position at (of made) places) found
          ≡ option_map of (option_and_then (λ at. travelled make position at made places) found)
      by_spot None = refl
      by_spot (Some at) = travelled_alike at made places

-- what the check of a run needs of its legs
pub ruleset legs = (at_end, begun_along, leg_further, no_leg, rest_short)
