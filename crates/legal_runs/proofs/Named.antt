-- The walk that places name is a walk, from a stop to a stop.
use Rattle.std.proofs.Common.{◌≡◌, ◌==◌, Bool, true, false, ltb, inl, inr, if◌then◌else◌, Option, Some, None}
use Rattle.std.proofs.Common.{option_map, option_and_then, List, [], ◌∷◌, refl, ap, ◌∙◌, subst, arith}
use Rattle.std.specs.List.{list_any}
use Rattle.std.proofs.lemmas.Bool.{eqb-true}
use Rattle.map_tables.specs.Border.{neighbour_of}
use Rattle.map_tables.specs.Hex.{index_of, same_hex}
use Rattle.map_tables.specs.Place.{joined_stop_of, stop_at}
use Rattle.map_tables.specs.Side.{facing_of, sides}
use Rattle.map_tables.specs.Track.{end_order}
use Rattle.map_tables.specs.declared.hex.Hex.{Hex}
use Rattle.map_tables.specs.declared.place.Place.{Place}
use Rattle.map_tables.specs.declared.place.Stop.{Stop}
use Rattle.map_tables.specs.declared.place.StopNumber.{StopNumber}
use Rattle.map_tables.specs.declared.side.Side.{Side}
use Rattle.map_tables.specs.declared.track.TrackEnd.{TrackEnd}
use Rattle.map_tables.specs.declared.track.TrackEnd.TheVariants.{Side as AtSide, Stop as AtStop}
use Rattle.map_tables.specs.declared.track.Link.{Link}
pub use Rattle.map_tables.proofs.Searches.{found_passes}
use Rattle.reach.specs.Position.{Position, links_of}
use Rattle.reach.specs.Walk.{AreJoined, BeginsAt, GoesOn, IsTrack, IsWalk, across, entered_at, left_at, spot_at}
use Rattle.reach.specs.Walk.{stop_of}
use Rattle.reach.specs.declared.walk.Spot.{Spot}
use Rattle.reach.specs.declared.walk.WalkStep.{WalkStep}
use Rattle.reach.proofs.Hexes.{same_index, same_side, same_stop_index, side_low}
use Rattle.reach.proofs.Lists.{among_found}
use Rattle.legal_runs.specs.Legal.{EndsAtStop}
use Rattle.legal_runs.specs.Named.{arrived, is_hex, leg_by_stop, leg_over, leg_to, same_link, side_towards}
use Rattle.legal_runs.specs.Named.{step_between, step_over, taken, travelled, walk_named, with_leg}
use Rattle.legal_runs.specs.declared.leg.Leg.{Leg}
use Rattle.legal_runs.proofs.Tests.{three}

pub hex_found : (hex : Hex) (found : Option Hex) → is_hex hex found ≡ true → found ≡ Some hex
hex_found hex None is = cc
hex_found hex (Some other) is = ap Some (same_index other hex (eqb-true (index_of other) (index_of hex) is))

-- the side towards a hex is one at which it lies
pub towards : (hex other : Hex) (side : Side) → side_towards hex other ≡ Some side → neighbour_of hex side ≡ Some other
unfolding side_towards
towards hex other side is =
    hex_found other (neighbour_of hex side) (found_passes (λ side. is_hex other (neighbour_of hex side)) sides side is)

-- ends with one place in the order of ends are one
pub same_end : (a b : TrackEnd) → end_order a ≡ end_order b → a ≡ b
same_end (AtSide side) (AtSide other) same = ap AtSide (same_side side other same)
same_end (AtStop number) (AtStop other) same = ap AtStop (same_stop_index number other (omega arith))
same_end (AtSide side) (AtStop other) same = absurd (omega (arith, side_low side))
same_end (AtStop number) (AtSide other) same = absurd (omega (arith, side_low other))

-- links that pass for one are one
link_is : (link other : Link) → same_link link other ≡ true → link ≡ other
link_is link other same =
    let parts : (same_hex link.hex other.hex ≡ true) × ((end_order link.a == end_order other.a) ≡ true)
    × ((end_order link.b == end_order other.b) ≡ true) =
    three (same_hex link.hex other.hex) (end_order link.a == end_order other.a)
    (end_order link.b == end_order other.b) same in
    ap (λ (h : Hex). let l : Link = record { hex = h; a = link.a; b = link.b } in l)
    (same_index link.hex other.hex (eqb-true (index_of link.hex) (index_of other.hex) parts.0))
    ∙ ap (λ (e : TrackEnd). let l : Link = record { hex = other.hex; a = e; b = link.b } in l)
    (same_end link.a other.a (eqb-true (end_order link.a) (end_order other.a) parts.1))
    ∙ ap (λ (e : TrackEnd). let l : Link = record { hex = other.hex; a = other.a; b = e } in l)
    (same_end link.b other.b (eqb-true (end_order link.b) (end_order other.b) parts.2))

-- the step between two ends leads from the one to the other, by the link
record Joins (position : Position) (hex : Hex) (from to : TrackEnd) (step : WalkStep) : Type 0 where
  track : IsTrack position step
  entered : entered_at step ≡ spot_at hex from
  left : left_at step ≡ spot_at hex to

over_by : (position : Position) (hex : Hex) (from to : TrackEnd) (turned : Bool) → let step : WalkStep =
    if turned then record { link = record { hex = hex; a = to; b = from }; turned = true } else record
    { link = record { hex = hex; a = from; b = to }; turned = false } in list_any (λ link. same_link link step.link)
    (links_of position hex) ≡ true → Joins position hex from to step
over_by position hex from to true found =
    record { track = among_found same_link link_is (links_of position hex) _ found; entered = refl; left = refl }
over_by position hex from to false found =
    record { track = among_found same_link link_is (links_of position hex) _ found; entered = refl; left = refl }

joined_by : (position : Position) (hex : Hex) (from to : TrackEnd) (over step : WalkStep) (found : Bool)
    → (found ≡ true → Joins position hex from to over) → (if found then Some over else None) ≡ Some step
    → Joins position hex from to step
joined_by position hex from to over step true joins is = grind arith
joined_by position hex from to over step false joins is = cc

joins : (position : Position) (hex : Hex) (from to : TrackEnd) (step : WalkStep)
    → step_between position hex from to ≡ Some step → Joins position hex from to step
unfolding step_between
joins position hex from to step is =
    joined_by position hex from to (step_over hex from to) step
    (list_any (λ link. same_link link (step_over hex from to).link) (links_of position hex))
    (over_by position hex from to (ltb (end_order to) (end_order from))) is

-- a train is where its last step led: at the stop where it was left, or over the border there
abbrev LeadsTo : Spot → Hex → TrackEnd → Type 0
LeadsTo left hex (AtStop number) = left ≡ spot_at hex (AtStop number)
LeadsTo left hex (AtSide side) = across left ≡ Some (spot_at hex (AtSide side))

-- before its first step it is at a stop
abbrev IsAfter : List WalkStep → Hex → TrackEnd → Type 0
IsAfter [] hex end = (stop : Stop) × (stop_of (spot_at hex end) ≡ Some stop)
IsAfter (step ∷ before) hex end = LeadsTo (left_at step) hex end

-- a walk with a step begins at a stop
abbrev BeginsWell : List WalkStep → Type 0
BeginsWell [] = Unit {0}
BeginsWell (step ∷ before) = BeginsAt (λ stop. Unit {0}) (step ∷ before)

-- what holds of the steps of a train, and of where it is
record Goes (position : Position) (steps : List WalkStep) (at : Spot) : Type 0 where
  walk : IsWalk position steps
  begins : BeginsWell steps
  is_after : IsAfter steps at.hex at.end

-- where a train is it is joined to where its last step was left
joined_there : (left : Spot) (hex : Hex) (end : TrackEnd) → LeadsTo left hex end → AreJoined left (spot_at hex end)
joined_there left hex (AtSide side) is_after = inr is_after
joined_there left hex (AtStop number) is_after =
    inl (joined_stop_of (stop_at hex number), ap stop_of is_after, refl)

goes_on : (before : List WalkStep) (step : WalkStep) (hex : Hex) (end : TrackEnd) → IsAfter before hex end
    → entered_at step ≡ spot_at hex end → GoesOn before step
goes_on [] step hex end is_after entered = tt
goes_on (earlier ∷ before) step hex end is_after entered = grind (arith, joined_there)

begins_well : (before : List WalkStep) (step : WalkStep) (hex : Hex) (end : TrackEnd) → BeginsWell before
    → IsAfter before hex end → entered_at step ≡ spot_at hex end → BeginsAt (λ stop. Unit {0}) (step ∷ before)
begins_well [] step hex end begins is_after entered = (is_after.0, ap stop_of entered ∙ is_after.1, tt)
begins_well (earlier ∷ before) step hex end begins is_after entered = begins

-- a walk from a stop to a stop
pub record StopToStop (position : Position) (steps : List WalkStep) : Type 0 where
  pub walk : IsWalk position steps
  pub begins : BeginsAt (λ stop. Unit {0}) steps
  pub ends : EndsAtStop steps

-- a walk with a step leads from a stop to a stop
abbrev pub IsWhole : Position → List WalkStep → Type 0
IsWhole position [] = Unit {0}
IsWhole position (step ∷ before) = StopToStop position (step ∷ before)

module _ (position : Position) where
  -- a step further
  one_step : (before : List WalkStep) (step : WalkStep) (hex : Hex) (from to : TrackEnd) (at : Spot)
      → Joins position hex from to step → IsWalk position before → BeginsWell before → IsAfter before hex from
      → LeadsTo (spot_at hex to) at.hex at.end → Goes position (step ∷ before) at
  one_step before step hex from to at joins walk begins is_after next = grind (arith, joins, goes_on, begins_well)

  -- over the border to the next place, and on to its stop
  on_by_stop : (steps : List WalkStep) (first : WalkStep) (hex : Hex) (side : Side) (stop : Option StopNumber) (leg : Leg)
      → Goes position (first ∷ steps) (spot_at hex (AtSide side))
      → leg_by_stop position first hex side stop ≡ Some leg → Goes position (with_leg taken steps leg) leg.at
  on_by_stop steps first hex side None leg goes is = grind arith
  on_by_stop steps first hex side (Some number) leg goes is =
      by_second (step_between position hex (AtSide side) (AtStop number)) refl is
    where
      by_second : (found : Option WalkStep) → step_between position hex (AtSide side) (AtStop number) ≡ found
          → option_map (λ second. let made : Leg = record
          { first = first; second = Some second; at = spot_at hex (AtStop number) } in made) found ≡ Some leg
          → Goes position (with_leg taken steps leg) leg.at
      by_second None found is = cc
      by_second (Some second) found is =
          let same : (let made : Leg = record {
            first = first;
            second = Some second;
            at =
                spot_at hex (AtStop number);
          } in made) ≡ leg = cc in
          subst (λ (l : Leg). Goes position (with_leg taken steps l) l.at) same
          (one_step (first ∷ steps) second hex (AtSide side) (AtStop number) (spot_at hex (AtStop number))
          (joins position hex (AtSide side) (AtStop number) second found) goes.walk goes.begins goes.is_after refl)

  on_from : (steps : List WalkStep) (at : Spot) (side : Side) (place : Place) (first : Option WalkStep) (leg : Leg)
      → Goes position steps at → neighbour_of at.hex side ≡ Some place.hex
      → step_between position at.hex at.end (AtSide side) ≡ first → option_and_then (λ (step : WalkStep). leg_by_stop position step place.hex (facing_of side) place.stop) first ≡ Some leg
      → Goes position (with_leg taken steps leg) leg.at
  on_from steps at side place None leg goes beside found is = cc
  on_from steps at side place (Some first) leg goes beside found is =
      on_by_stop steps first place.hex (facing_of side) place.stop leg
      (one_step steps first at.hex at.end (AtSide side) (spot_at place.hex (AtSide (facing_of side)))
      (joins position at.hex at.end (AtSide side) first found) goes.walk goes.begins goes.is_after
      (ap (option_map (λ other. spot_at other (AtSide (facing_of side)))) beside))
      is

  on_over : (steps : List WalkStep) (at : Spot) (place : Place) (side : Option Side) (leg : Leg) → Goes position steps at
      → side_towards at.hex place.hex ≡ side → option_and_then (leg_over position at place) side ≡ Some leg
      → Goes position (with_leg taken steps leg) leg.at
  on_over steps at place None leg goes found is = cc
  on_over steps at place (Some side) leg goes found is =
      on_from steps at side place (step_between position at.hex at.end (AtSide side)) leg goes
      (towards at.hex place.hex side found) refl is

  -- a leg further
  on_leg : (steps : List WalkStep) (at : Spot) (place : Place) (leg : Leg) → Goes position steps at
      → leg_to position at place ≡ Some leg → Goes position (with_leg taken steps leg) leg.at
  unfolding leg_to
  on_leg steps at place leg goes is = grind (arith, on_over)

  whole_there : (steps : List WalkStep) (hex : Hex) (end : TrackEnd) → IsWalk position steps → BeginsWell steps
      → IsAfter steps hex end → (all : List WalkStep) → arrived end steps ≡ Some all → IsWhole position all
  whole_there steps hex (AtSide side) walk begins is_after all is = cc
  whole_there [] hex (AtStop number) walk begins is_after all is = grind arith
  whole_there (step ∷ before) hex (AtStop number) walk begins is_after all is =
      let same : (step ∷ before) ≡ all = cc in
      subst (λ (a : List WalkStep). IsWhole position a) same
      (record { walk = walk; begins = begins; ends = (joined_stop_of (stop_at hex number), ap stop_of is_after) })

  -- all the way
  all_the_way : (steps : List WalkStep) (at : Spot) (places : List Place) (all : List WalkStep) → Goes position steps at
      → travelled taken position at steps places ≡ Some all → IsWhole position all
  all_the_way steps at [] all goes is = grind (arith, whole_there)
  all_the_way steps at (place ∷ places) all goes is =
      by_leg (leg_to position at place) (λ leg found. all_the_way (with_leg taken steps leg) leg.at places all
      (on_leg steps at place leg goes found)) refl is
    where
      by_leg : (found : Option Leg) → ((leg : Leg) → leg_to position at place ≡ Some leg
          → travelled taken position leg.at (with_leg taken steps leg) places ≡ Some all → IsWhole position all)
          → leg_to position at place ≡ found → option_and_then
          (λ leg. travelled taken position leg.at (with_leg taken steps leg) places) found ≡ Some all
          → IsWhole position all
      by_leg None later found is = cc
      by_leg (Some leg) later found is = later leg found is

  -- the walk that places name is a walk from a stop to a stop, or has no steps
  pub named_is_whole : (places : List Place) (all : List WalkStep) → walk_named position places ≡ Some all
      → IsWhole position all
  named_is_whole [] all is = cc
  named_is_whole (place ∷ places) all is = by_stop place.stop is
    where
      by_stop : (stop : Option StopNumber) → option_and_then (λ at. travelled taken position at [] places)
          (option_map (λ number. spot_at place.hex (AtStop number)) stop) ≡ Some all → IsWhole position all
      by_stop None is = cc
      by_stop (Some number) is =
          all_the_way [] (spot_at place.hex (AtStop number)) places all
          (record { walk = tt; begins = tt; is_after = (joined_stop_of (stop_at place.hex number), refl) }) is
