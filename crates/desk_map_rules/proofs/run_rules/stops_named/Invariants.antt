use Rattle.std.proofs.Common.{◌≡◌, take}
use Rattle.std.specs.List.{flat_map}
use Rattle.legal_runs.specs.Legal.{listed}
use Rattle.map_tables.specs.Place.{stop_of_place}
use Rattle.desk_map_rules.proofs.run_rules.stops_named.Given as goal

-- the stops of the places so far
abbrev pub invariant-loop-place : goal.invariant-loop-place
invariant-loop-place l =
    l.stops.items ≡ flat_map (λ place. listed (stop_of_place place)) (take l.place-index l.places)
