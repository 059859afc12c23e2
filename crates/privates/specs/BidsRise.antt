-- Bids rise: each is at least 5 over every earlier bid on its private, whether or not that is held
use Rattle.std.specs.Prelude.{◌≡◌, ℕ, ◌<◌, Bool, false, List, [], ◌∷◌, Option, Some, None}
use Rattle.std.specs.List.{list_any}
use Rattle.events.specs.Event.{bidding_of}
use Rattle.events.specs.declared.event.Bidding.{Bidding}
use Rattle.events.specs.declared.event.Bidding.TheVariants.{Made, Ended}
use Rattle.events.specs.declared.event.Event.{Event}
use Rattle.totals.specs.Bids.{bid_made}
use Rattle.totals.specs.LookBack.{Game}
use Rattle.history.specs.Sound.{BiddersAreSeated}
use Rattle.privates.specs.Bid.{is_near}
use Rattle.privates.specs.Opening.{IsOpeningRound}
use Rattle.tables.specs.declared.round.Round.{Round}

-- the later is a bid less than 5 over the earlier, on the same private
abbrev pub is_near_earlier : Option Bidding → Option Bidding → Bool
is_near_earlier earlier None = false
is_near_earlier earlier (Some (Made private bid)) = is_near bid.amount (bid_made private earlier)
is_near_earlier earlier (Some (Ended private)) = false

-- some later bid is less than 5 over this one
abbrev pub some_later_is_near : Option Bidding → List Event → Bool
some_later_is_near earlier later = list_any (λ event. is_near_earlier earlier (bidding_of event)) later

-- each bid is at least 5 over every earlier bid on its private
abbrev pub BidsRise : List Event → Type 0
BidsRise [] = Unit {0}
BidsRise (event ∷ later) = (some_later_is_near (bidding_of event) later ≡ false) × BidsRise later

-- bids that rise at the start of an opening round rise at its end, if the table has a seat, and
-- those who bid before it are at the table
abbrev pub OpeningBidsRise : Type 0
OpeningBidsRise =
    (file : List ℕ) (round : Round) (old new : Game) →
    IsOpeningRound file round old new → 0 < old.seats → BiddersAreSeated old.seats old.events → BidsRise old.events
    → BidsRise new.events
