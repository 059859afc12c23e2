-- Walks over the track of a position. A link joins two ends in one hex, each a side of the hex or a
-- stop. A walk is a list of links, the latest first. Each is entered at one of its ends and left at
-- the other, and is joined to the next at a stop, or at the border between their two hexes. Nothing
-- here depends on a search.
use Rattle.std.specs.Prelude.{◌≡◌, List, [], ◌∷◌, Option, Some, None, IfSome, option_map, if◌then◌else◌, ◌⊎◌}
use Rattle.map_tables.specs.Border.{neighbour_of}
use Rattle.map_tables.specs.Place.{joined_stop_of, stop_at}
use Rattle.map_tables.specs.Side.{facing_of}
use Rattle.map_tables.specs.declared.hex.Hex.{Hex}
use Rattle.map_tables.specs.declared.place.Stop.{Stop}
use Rattle.map_tables.specs.declared.track.TrackEnd.{TrackEnd}
use Rattle.map_tables.specs.declared.track.TrackEnd.TheVariants.{Side as AtSide, Stop as AtStop}
use Rattle.map_tables.specs.declared.track.Link.{Link}
use Rattle.reach.specs.Position.{Position, links_of, IsAmong}
use Rattle.reach.specs.declared.walk.Spot.{Spot}
use Rattle.reach.specs.declared.walk.WalkStep.{WalkStep}

-- an end in a hex
abbrev pub spot_at : Hex → TrackEnd → Spot
spot_at hex end = record { hex = hex; end = end }

-- where a step enters its link: at the first end, or turned at the second
abbrev pub entered_at : WalkStep → Spot
entered_at step = spot_at step.link.hex (if step.turned then step.link.b else step.link.a)

-- where a step leaves its link: at the other end
abbrev pub left_at : WalkStep → Spot
left_at step = spot_at step.link.hex (if step.turned then step.link.a else step.link.b)

-- the stop at an end of a hex; one that lies in two hexes is the stop that names it
abbrev pub stop_at_end : Hex → TrackEnd → Option Stop
stop_at_end hex (AtSide side) = None
stop_at_end hex (AtStop number) = Some (joined_stop_of (stop_at hex number))

-- the stop at a spot
abbrev pub stop_of : Spot → Option Stop
stop_of spot = stop_at_end spot.hex spot.end

-- the other side of the border at an end of a hex; there is none off the map, where the border is
-- closed, and at a stop
abbrev pub across_end : Hex → TrackEnd → Option Spot
across_end hex (AtSide side) = option_map (λ other. spot_at other (AtSide (facing_of side))) (neighbour_of hex side)
across_end hex (AtStop number) = None

-- the other side of the border at a spot
abbrev pub across : Spot → Option Spot
across spot = across_end spot.hex spot.end

-- two spots are joined: they are one stop, or the two sides of one border
abbrev pub AreJoined : Spot → Spot → Type 0
AreJoined spot other =
    ((stop : Stop) × (stop_of spot ≡ Some stop) × (stop_of other ≡ Some stop)) ⊎ (across spot ≡ Some other)

-- a step goes on from where the one before left its link; the first goes on from nowhere
abbrev pub GoesOn : List WalkStep → WalkStep → Type 0
GoesOn [] step = Unit {0}
GoesOn (earlier ∷ before) step = AreJoined (left_at earlier) (entered_at step)

-- a step takes a link of the position
abbrev pub IsTrack : Position → WalkStep → Type 0
IsTrack position step = IsAmong step.link (links_of position step.link.hex)

-- these steps are a walk: each takes a link of the position, and goes on from the one before
abbrev pub IsWalk : Position → List WalkStep → Type 0
IsWalk position [] = Unit {0}
IsWalk position (step ∷ before) = IsTrack position step × GoesOn before step × IsWalk position before

-- where a walk begins whose latest step is this one, after those before
abbrev pub begins_at : WalkStep → List WalkStep → Spot
begins_at step [] = entered_at step
begins_at step (earlier ∷ before) = begins_at earlier before

-- a walk begins at such a stop
abbrev pub BeginsAt : (Stop → Type 0) → List WalkStep → Type 0
BeginsAt P [] = ⊥
BeginsAt P (step ∷ before) = (stop : Stop) × (stop_of (begins_at step before) ≡ Some stop) × P stop

-- if a step goes on at a stop, it is such a stop
abbrev pub PassesBy : (Stop → Type 0) → List WalkStep → WalkStep → Type 0
PassesBy P [] step = Unit {0}
PassesBy P (earlier ∷ before) step = IfSome (stop_of (entered_at step)) P

-- a walk passes only such stops: each stop between two of its links is one
abbrev pub PassesOnly : (Stop → Type 0) → List WalkStep → Type 0
PassesOnly P [] = Unit {0}
PassesOnly P (step ∷ before) = PassesBy P before step × PassesOnly P before

-- a walk touches a link: it takes it
abbrev pub TouchesLink : Link → List WalkStep → Type 0
TouchesLink link [] = ⊥
TouchesLink link (step ∷ before) = (step.link ≡ link) ⊎ TouchesLink link before

-- a step ends at a stop, at one of the ends of its link
abbrev pub EndsAt : Stop → WalkStep → Type 0
EndsAt stop step = (stop_of (entered_at step) ≡ Some stop) ⊎ (stop_of (left_at step) ≡ Some stop)

-- a walk touches a stop: one of its links ends there
abbrev pub TouchesStop : Stop → List WalkStep → Type 0
TouchesStop stop [] = ⊥
TouchesStop stop (step ∷ before) = EndsAt stop step ⊎ TouchesStop stop before
