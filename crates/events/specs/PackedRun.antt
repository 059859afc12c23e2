-- A run of few places as a ruling keeps it.
use Rattle.std.specs.Prelude.{List}
use Rattle.events.specs.declared.packed_run.ShortRun.{ShortRun}
use Rattle.events.specs.declared.packed_run.ShortRun.TheVariants as run
use Rattle.map_tables.specs.declared.place.Place.{Place}

-- the places of a run that is packed without a box
abbrev pub places_in : ShortRun → List Place
places_in (run.Two places) = places
places_in (run.Three places) = places
places_in (run.Four places) = places
places_in (run.Five places) = places
