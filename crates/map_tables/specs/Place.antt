-- Stops and places. A place is a hex, or one of its stops, which are numbered 0 and 1 in the order
-- in which the map or the tile prints them. Two red areas lie in two hexes each and are one stop.
use Rattle.std.specs.Prelude.{ℕ, Option, Some, option_map}
use Rattle.map_tables.specs.declared.hex.Hex.{Hex}
use Rattle.map_tables.specs.declared.hex.Hex.TheVariants.{A9, A11, I1, J2}
use Rattle.map_tables.specs.declared.place.StopNumber.{StopNumber}
use Rattle.map_tables.specs.declared.place.StopNumber.TheVariants.{First, Second}
use Rattle.map_tables.specs.declared.place.Stop.{Stop}
use Rattle.map_tables.specs.declared.place.Place.{Place}

-- the number of a stop
abbrev pub stop_index_of : StopNumber → ℕ
stop_index_of First = 0
stop_index_of Second = 1

-- the other number
abbrev pub other_stop : StopNumber → StopNumber
other_stop First = Second
other_stop Second = First

-- a stop of a hex, by its number
abbrev pub stop_at : Hex → StopNumber → Stop
stop_at hex number = record { hex = hex; number = number }

-- the place that names a stop
abbrev pub place_of : Stop → Place
place_of stop = record { hex = stop.hex; stop = Some stop.number }

-- the stop that a place names, if it names one
abbrev pub stop_of_place : Place → Option Stop
stop_of_place place = option_map (stop_at place.hex) place.stop

-- The Gulf lies in J2 and I1 and is one stop, J2.0; the Canadian West lies in A11 and A9 and is
-- A11.0.
abbrev pub joined_hex : Hex → Hex
joined_hex I1 = J2
joined_hex A9 = A11
joined_hex hex = hex

-- the stop that a stop is: that of the hex which names the whole area
abbrev pub joined_stop_of : Stop → Stop
joined_stop_of stop = stop_at (joined_hex stop.hex) stop.number
