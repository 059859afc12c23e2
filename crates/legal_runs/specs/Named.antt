-- The walk that a list of places names. The train comes to their hexes in order. It goes by stop i
-- of a hex if its place is written with `.i`, and by through track if it is not. Places side by
-- side meet at the border of their hexes. The first and the last place each have a stop. A list of
-- places names one walk, or none if there is no such track.
use Rattle.std.specs.Option.{option_map_or}
use Rattle.std.specs.Prelude.{Bool, true, false, ◌==◌, ◌&&◌, nat_lt, if◌then◌else◌, Option, Some, None, option_map}
use Rattle.std.specs.Prelude.{option_and_then, List, [], ◌∷◌, find}
use Rattle.std.specs.List.{list_any}
use Rattle.map_tables.specs.Border.{neighbour_of}
use Rattle.map_tables.specs.Hex.{same_hex}
use Rattle.map_tables.specs.Side.{sides, facing_of}
use Rattle.map_tables.specs.Track.{end_order}
use Rattle.map_tables.specs.declared.hex.Hex.{Hex}
use Rattle.map_tables.specs.declared.place.Place.{Place}
use Rattle.map_tables.specs.declared.place.StopNumber.{StopNumber}
use Rattle.map_tables.specs.declared.side.Side.{Side}
use Rattle.map_tables.specs.declared.track.TrackEnd.{TrackEnd}
use Rattle.map_tables.specs.declared.track.TrackEnd.TheVariants.{Side as AtSide, Stop as AtStop}
use Rattle.map_tables.specs.declared.track.Link.{Link}
use Rattle.reach.specs.Position.{Position, links_of}
use Rattle.reach.specs.Walk.{spot_at}
use Rattle.reach.specs.declared.walk.Spot.{Spot}
use Rattle.reach.specs.declared.walk.WalkStep.{WalkStep}
use Rattle.legal_runs.specs.declared.leg.Leg.{Leg}

-- whether a hex is the one that is looked for
abbrev pub is_hex : Hex → Option Hex → Bool
is_hex hex (Some other) = same_hex other hex
is_hex hex None = false

-- the side of a hex at which another lies, if they are neighbours
unfoldable pub side_towards : Hex → Hex → Option Side
side_towards hex other = find (λ side. is_hex other (neighbour_of hex side)) sides

-- whether two links are one, by the places of their ends
abbrev pub same_link : Link → Link → Bool
same_link link other =
    same_hex link.hex other.hex && ((end_order link.a == end_order other.a) && (end_order link.b == end_order other.b))

-- the step from one end of a hex to another, by the link that joins the two in that order of its
-- ends
abbrev pub step_over : Hex → TrackEnd → TrackEnd → WalkStep
step_over hex from to = if nat_lt (end_order to) (end_order from) then
    record { link = record { hex = hex; a = to; b = from }; turned = true } else
    record { link = record { hex = hex; a = from; b = to }; turned = false }

-- the step from one end of a hex to another, if the position has the link that joins them
unfoldable pub step_between : Position → Hex → TrackEnd → TrackEnd → Option WalkStep
step_between position hex from to = let step = step_over hex from to in
    if list_any (λ link. same_link link step.link) (links_of position hex) then Some step else None

-- A leg leads from where the train is over a border to the next place. It has a step to the border,
-- and, if that place has a stop, a step on to the stop. Without a stop the train is at the border.
abbrev pub leg_by_stop : Position → WalkStep → Hex → Side → Option StopNumber → Option Leg
leg_by_stop position first hex side None =
    Some (record { first = first; second = None; at = spot_at hex (AtSide side) })
leg_by_stop position first hex side (Some number) =
    option_map (λ second. record { first = first; second = Some second; at = spot_at hex (AtStop number) })
    (step_between position hex (AtSide side) (AtStop number))

-- the leg from where the train is to a place of a neighbouring hex at this side
abbrev pub leg_over : Position → Spot → Place → Side → Option Leg
leg_over position at place side =
    option_and_then (λ first. leg_by_stop position first place.hex (facing_of side) place.stop)
    (step_between position at.hex at.end (AtSide side))

-- the leg from where the train is to the place that is named next
unfoldable pub leg_to : Position → Spot → Place → Option Leg
leg_to position at place = option_and_then (leg_over position at place) (side_towards at.hex place.hex)

-- what is made of both steps of a leg, one after the other
abbrev pub with_leg : {A : Type 0} → (A → WalkStep → A) → A → Leg → A
with_leg take made leg = option_map_or (take (take made leg.first)) leg.second (take made leg.first)

-- a train that has arrived: it is at a stop
abbrev pub arrived : {A : Type 0} → TrackEnd → A → Option A
arrived (AtStop number) made = Some made
arrived (AtSide side) made = None

-- what is made of all steps of a train that goes on from a spot by these places
abbrev pub travelled : {A : Type 0} → (A → WalkStep → A) → Position → Spot → A → List Place → Option A
travelled take position at made [] = arrived at.end made
travelled take position at made (place ∷ places) =
    option_and_then (λ leg. travelled take position leg.at (with_leg take made leg) places) (leg_to position at place)

-- where a train begins: at the stop of its first place
abbrev pub beginning : Place → Option Spot
beginning place = option_map (λ number. spot_at place.hex (AtStop number)) place.stop

-- what is made of all steps of the walk that some places name
abbrev pub made_along : {A : Type 0} → (A → WalkStep → A) → Position → A → List Place → Option A
made_along take position made [] = None
made_along take position made (place ∷ places) =
    option_and_then (λ at. travelled take position at made places) (beginning place)

-- one more step of a walk, the latest first
abbrev pub taken : List WalkStep → WalkStep → List WalkStep
taken before step = step ∷ before

-- the walk that some places name
abbrev pub walk_named : Position → List Place → Option (List WalkStep)
walk_named position places = made_along taken position [] places
