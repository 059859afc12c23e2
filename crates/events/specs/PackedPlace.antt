-- A place of a run as a ruling keeps it, in two bytes.
use Rattle.std.specs.Prelude.{Option, Some, None}
use Rattle.events.specs.declared.packed_place.PackedStop.{PackedStop}
use Rattle.events.specs.declared.packed_place.PackedStop.TheVariants as stop
use Rattle.map_tables.specs.declared.hex.Hex.{Hex}
use Rattle.map_tables.specs.declared.place.Place.{Place}
use Rattle.map_tables.specs.declared.place.StopNumber.{StopNumber}
use Rattle.map_tables.specs.declared.place.StopNumber.TheVariants.{First, Second}

-- the number of the stop that is named, if one is
abbrev pub stop_in : PackedStop → Option StopNumber
stop_in stop.None = None
stop_in stop.First = Some First
stop_in stop.Second = Some Second

-- how the stop that is named is packed
abbrev pub packed_stop : Option StopNumber → PackedStop
packed_stop None = stop.None
packed_stop (Some First) = stop.First
packed_stop (Some Second) = stop.Second

-- the place that is packed
abbrev pub place_in : Hex → PackedStop → Place
place_in hex stop = record { hex = hex; stop = stop_in stop }
