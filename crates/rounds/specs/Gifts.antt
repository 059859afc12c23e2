-- What a round needs of the list before it, besides that it is sound: before an opening round PRR
-- and BO wait for the privates that come with their shares. Once all privates are sold, no opening
-- comes any more.
use Rattle.std.specs.Prelude.{List, ⊤}
use Rattle.events.specs.declared.event.Event.{Event}
use Rattle.privates.specs.Underway.{BaltimoreWaits, PennsylvaniaWaits}
use Rattle.tables.specs.declared.round.Round.{Round}
use Rattle.tables.specs.declared.round.Round.TheVariants.{Opening, Stock, Operating}

-- what holds before a round
abbrev pub GiftsWait : Round → List Event → Type 0
GiftsWait (Opening number) events = PennsylvaniaWaits events × BaltimoreWaits events
GiftsWait (Stock set) events = ⊤
GiftsWait (Operating set number) events = ⊤
