-- The totals of a game, in a box.
use Rattle.std.specs.Prelude.{◌≡◌, true, [], List, Option, Some, None, Box, is_some}
use Rattle.std.specs.Global.{Global}
use Rattle.events.specs.declared.event.Event.{Event}
use Rattle.totals.specs.Totals.{AreTotalsOf}
use Rattle.totals.specs.declared.totals.Totals.{Totals}
use Rattle.history.specs.declared.boxed_totals.BoxedTotals.{BoxedTotals}

-- a box has the totals of these events; if there is no box, nothing has happened
abbrev pub BoxHasTotalsOf : Option (Box Totals Global) → List Event → Type 0
BoxHasTotalsOf None events = events ≡ []
BoxHasTotalsOf (Some totals) events = AreTotalsOf totals.value events

-- the totals are those of these events
abbrev pub HasTotalsOf : BoxedTotals → List Event → Type 0
HasTotalsOf totals events = BoxHasTotalsOf totals.boxed events

-- there is a box
abbrev pub HasBox : BoxedTotals → Type 0
HasBox totals = is_some totals.boxed ≡ true
