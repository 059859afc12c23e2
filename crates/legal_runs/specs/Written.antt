-- The places of a walk, as a run is written in full. They are the place where it begins, and then one
-- for each border that it crosses, in the order in which the train comes to them. A place is
-- written with the number of its stop if the train goes by one, and without if it goes by through
-- track.
use Rattle.std.specs.Prelude.{Option, Some, None, List, [], ◌∷◌, ◌++◌}
use Rattle.map_tables.specs.declared.place.Place.{Place}
use Rattle.map_tables.specs.declared.place.StopNumber.{StopNumber}
use Rattle.map_tables.specs.declared.track.TrackEnd.{TrackEnd}
use Rattle.map_tables.specs.declared.track.TrackEnd.TheVariants.{Side as AtSide, Stop as AtStop}
use Rattle.reach.specs.Walk.{begins_at, entered_at, left_at}
use Rattle.reach.specs.declared.walk.Spot.{Spot}
use Rattle.reach.specs.declared.walk.WalkStep.{WalkStep}
use Rattle.legal_runs.specs.Legal.{listed}

-- the number of the stop at an end, if it is one
abbrev pub number_at : TrackEnd → Option StopNumber
number_at (AtSide side) = None
number_at (AtStop number) = Some number

-- how a spot is written
abbrev pub place_at : Spot → Place
place_at spot = record { hex = spot.hex; stop = number_at spot.end }

-- the place to which a step comes over a border: it is entered at a side, and the place has the
-- stop at which it is left
abbrev pub place_over : TrackEnd → Spot → Option Place
place_over (AtSide side) left = Some (place_at left)
place_over (AtStop number) left = None

-- the places to which a walk comes over borders, the first place first; the latest step of the walk
-- comes first
abbrev pub places_over : List WalkStep → List Place
places_over [] = []
places_over (step ∷ before) = places_over before ++ listed (place_over (entered_at step).end (left_at step))

-- the places of a walk whose latest step comes first
abbrev pub places_of : List WalkStep → List Place
places_of [] = []
places_of (step ∷ before) = place_at (begins_at step before) ∷ places_over (step ∷ before)
