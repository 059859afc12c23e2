-- Each run of a claim that holds has 2 to 280 places: at least two stops, and a border crossed to
-- each place but the first, none of them twice.
use Rattle.std.proofs.Common.{◌≡◌, ℕ, ◌+◌, Bool, true, false, cond, ltb, List, [], ◌∷◌, Option, Some, None, option_map}
use Rattle.std.proofs.Common.{option_and_then, length, refl, arith}
use Rattle.std.specs.List.{AllByRecursion, list_any}
use Rattle.std.proofs.lemmas.List.{length-append}
use Rattle.map_tables.specs.Side.{facing_of}
use Rattle.map_tables.specs.Track.{end_order}
use Rattle.map_tables.specs.declared.hex.Hex.{Hex}
use Rattle.map_tables.specs.declared.place.Place.{Place}
use Rattle.map_tables.specs.declared.place.StopNumber.{StopNumber}
use Rattle.map_tables.specs.declared.side.Side.{Side}
use Rattle.map_tables.specs.declared.track.TrackEnd.{TrackEnd}
use Rattle.map_tables.specs.declared.track.TrackEnd.TheVariants.{Side as AtSide, Stop as AtStop}
use Rattle.reach.specs.Position.{Position, links_of}
use Rattle.reach.specs.Walk.{entered_at, spot_at}
use Rattle.reach.specs.declared.walk.Spot.{Spot}
use Rattle.reach.specs.declared.walk.WalkStep.{WalkStep}
use Rattle.tables.specs.declared.rolling_stock.Kind.{Kind}
use Rattle.tables.specs.declared.roster.Company.{Company}
use Rattle.legal_runs.specs.Claim.{NameRuns}
use Rattle.legal_runs.specs.Legal.{IsLegalRun, border_at, crossed}
use Rattle.legal_runs.specs.Named.{arrived, leg_by_stop, leg_over, leg_to, same_link}
use Rattle.legal_runs.specs.Named.{step_between, step_over, taken, travelled, walk_named, with_leg}
use Rattle.legal_runs.specs.Places.{ClaimsHavePlaces, HasPlaces}
use Rattle.legal_runs.specs.Set.{RunsLegally, TrainRun}
use Rattle.legal_runs.specs.declared.claim.ClaimedRun.{ClaimedRun}
use Rattle.legal_runs.specs.declared.leg.Leg.{Leg}
use Rattle.legal_runs.proofs.Counting.{no_more}
use Rattle.legal_runs.proofs.TallyOfWalk.{crossed_low}

-- a border is crossed to enter a step at a side
over_border : TrackEnd → ℕ
over_border (AtSide side) = 1
over_border (AtStop number) = 0

border_counted : (hex : Hex) (end : TrackEnd) → length (border_at hex end) ≡ over_border end
unfolding over_border
border_counted hex (AtSide side) = refl
border_counted hex (AtStop number) = refl

step_counted : (before : List WalkStep) (step : WalkStep) (from : TrackEnd) → (entered_at step).end ≡ from
    → length (crossed (step ∷ before)) ≡ over_border from + length (crossed before)
step_counted before step from enters = grind (arith, over_border, border_counted, enters, length-append)

-- a step between two ends is entered at the first
over_by : (hex : Hex) (from to : TrackEnd) (turned : Bool) → let step : WalkStep =
    cond turned (record { link = record { hex = hex; a = to; b = from }; turned = true })
    (record { link = record { hex = hex; a = from; b = to }; turned = false }) in (entered_at step).end ≡ from
over_by hex from to true = refl
over_by hex from to false = refl

found_by : (over step : WalkStep) (from : TrackEnd) (found : Bool) → (entered_at over).end ≡ from
    → cond found (Some over) None ≡ Some step → (entered_at step).end ≡ from
found_by over step from true enters is = grind arith
found_by over step from false enters is = absurd cc

enters : (position : Position) (hex : Hex) (from to : TrackEnd) (step : WalkStep)
    → step_between position hex from to ≡ Some step → (entered_at step).end ≡ from
unfolding step_between
enters position hex from to step is =
    found_by (step_over hex from to) step from (list_any (λ link. same_link link (step_over hex from to).link)
    (links_of position hex))
    (over_by hex from to (ltb (end_order to) (end_order from))) is

-- a leg leads over one more border, which is crossed once a step is entered after it
record IsCounted (made : List WalkStep) (from : ℕ) (leg : Leg) : Type 0 where
  counted : over_border leg.at.end + length (crossed (with_leg taken made leg)) ≡ 1 + (from + length (crossed made))

by_stop : (position : Position) (made : List WalkStep) (from : TrackEnd) (first : WalkStep) (hex : Hex) (side : Side)
    (stop : Option StopNumber) (leg : Leg) →
    (entered_at first).end ≡ from → leg_by_stop position first hex side stop ≡ Some leg
    → IsCounted made (over_border from) leg
unfolding over_border
by_stop position made from first hex side None leg enters_first is = grind (arith, over_border, step_counted)
by_stop position made from first hex side (Some number) leg enters_first is =
    by_second (step_between position hex (AtSide side) (AtStop number)) refl is
  where
    by_second : (found : Option WalkStep) → step_between position hex (AtSide side) (AtStop number) ≡ found
        → option_map (λ second. let there : Leg = record
        { first = first; second = Some second; at = spot_at hex (AtStop number) } in there) found ≡ Some leg
        → IsCounted made (over_border from) leg
    by_second None found is = absurd cc
    by_second (Some second) found is = grind (arith, over_border, step_counted, enters)

by_first : (position : Position) (made : List WalkStep) (at : Spot) (side : Side) (place : Place) (first : Option WalkStep)
    (leg : Leg) →
    step_between position at.hex at.end (AtSide side) ≡ first → option_and_then (λ (step : WalkStep). leg_by_stop position step place.hex (facing_of side) place.stop) first ≡ Some leg
    → IsCounted made (over_border at.end) leg
by_first position made at side place None leg found is = absurd cc
by_first position made at side place (Some first) leg found is =
    by_stop position made at.end first place.hex (facing_of side) place.stop leg
    (enters position at.hex at.end (AtSide side) first found) is

by_side : (position : Position) (made : List WalkStep) (at : Spot) (place : Place) (side : Option Side) (leg : Leg)
    → option_and_then (leg_over position at place) side ≡ Some leg → IsCounted made (over_border at.end) leg
by_side position made at place None leg is = absurd cc
by_side position made at place (Some side) leg is = grind (arith, by_first)

leg_counted : (position : Position) (made : List WalkStep) (at : Spot) (place : Place) (leg : Leg)
    → leg_to position at place ≡ Some leg → IsCounted made (over_border at.end) leg
unfolding leg_to
leg_counted position made at place leg is = grind (arith, by_side)

-- a train crosses a border to each place but its first
arrives : (hex : Hex) (end : TrackEnd) (made all : List WalkStep) → arrived end made ≡ Some all
    → length (crossed all) ≡ over_border end + length (crossed made)
unfolding over_border
arrives hex (AtSide side) made all is = absurd cc
arrives hex (AtStop number) made all is = grind arith

places_counted : (position : Position) (at : Spot) (made all : List WalkStep) (places : List Place)
    → travelled taken position at made places ≡ Some all →
    length (crossed all) ≡ (over_border at.end + length (crossed made)) + length places
places_counted position at made all [] is = grind (arith, arrives)
places_counted position at made all (place ∷ places) is =
    by_leg (leg_to position at place) (λ leg found next. omega (
      arith,
      (leg_counted position made at place leg found).counted,
      places_counted position leg.at
          (with_leg taken made leg) all places next,
    )) refl is
  where
    by_leg : (found : Option Leg) → ((leg : Leg) → leg_to position at place ≡ Some leg
        → travelled taken position leg.at (with_leg taken made leg) places ≡ Some all
        → length (crossed all) ≡ (over_border at.end + length (crossed made)) + length (place ∷ places))
        → leg_to position at place ≡ found → option_and_then
        (λ leg. travelled taken position leg.at (with_leg taken made leg) places) found ≡ Some all
        → length (crossed all) ≡ (over_border at.end + length (crossed made)) + length (place ∷ places)
    by_leg None later found is = absurd cc
    by_leg (Some leg) later found is = later leg found is

run_counted : (position : Position) (stop : Option StopNumber) (place : Place) (places : List Place) (all : List WalkStep)
    → place.stop ≡ stop →
    option_and_then (λ at. travelled taken position at [] places)
    (option_map (λ number. spot_at place.hex (AtStop number)) stop) ≡ Some all
    → length (crossed all) ≡ length places
unfolding over_border
run_counted position None place places all has is = absurd cc
run_counted position (Some number) place places all has is =
    omega (arith, places_counted position (spot_at place.hex (AtStop number)) [] all places is)

-- so a legal run has 2 to 280 places
has_places : (position : Position) (company : Company) (kind : Kind) (used : List ℕ) (run : List Place)
    (steps : List WalkStep) → walk_named position run ≡ Some steps → IsLegalRun position company kind used steps
    → HasPlaces run
has_places position company kind used [] steps named legal = absurd cc
has_places position company kind used (place ∷ []) steps named legal = grind arith
has_places position company kind used (place ∷ next ∷ places) steps named legal =
    let few = no_more 279 (crossed steps) legal.no_border_twice (crossed_low 279 steps (omega arith)) in
    let counted = run_counted position place.stop place (next ∷ places) steps refl named in
    (omega arith, omega (arith, few, counted))

-- and so does each of a claim that holds
runs_have_places :
    (position : Position) (company : Company) (claimed : List ClaimedRun) (runs : List TrainRun)
    → NameRuns position claimed runs →
    AllByRecursion (RunsLegally position company) runs → AllByRecursion (λ one. HasPlaces one.run) claimed
runs_have_places position company [] [] named legal = tt
runs_have_places position company [] (run ∷ runs) named legal = absurd named
runs_have_places position company (one ∷ claimed) [] named legal = absurd named
runs_have_places position company (one ∷ claimed) (run ∷ runs) named legal = (
  has_places position company run.kind [] one.run run.steps named.1 legal.0,
  runs_have_places position company claimed runs named.2 legal.1,
)

pub claims_have_places : ClaimsHavePlaces
claims_have_places position company trains claim holds = grind (arith, runs_have_places)
