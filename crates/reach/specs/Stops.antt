-- Stops as marks, one for each stop of the map, and the stops that a company reaches by themselves.
use Rattle.std.specs.Prelude.{◌≡◌, Bool, true, false, List, [], ◌∷◌, replicate, set}
use Rattle.map_tables.specs.declared.place.Stop.{Stop}
use Rattle.reach.specs.Position.{Position}
use Rattle.reach.specs.Reached.{IsReach, Reaching, map_stops, stop_order}
use Rattle.tables.specs.declared.roster.Company.{Company}

-- for each stop of the map, in order, whether it is one of some
abbrev pub marks_of : List Stop → List Bool
marks_of [] = replicate map_stops false
marks_of (stop ∷ stops) = set (marks_of stops) (stop_order stop) true

-- exactly the stops that a company reaches, in the order of the map
abbrev pub AreReachedStops : Position → Company → List Stop → Type 0
AreReachedStops position company stops = (reach : Reaching) × IsReach position company reach × (reach.stops ≡ stops)
