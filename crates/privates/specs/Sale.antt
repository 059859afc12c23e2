-- A sale of a private, what comes with it, and the sales that follow from it. CA comes with a share
-- of PRR. BOP comes with the president's certificate of BO, two shares, and its buyer sets BO's
-- par. When the cheapest private is sold, the next is sold at once if there are bids on it. A
-- single bidder buys it at that bid, and of more the winner of the auction. So it goes on, until
-- there are no bids on the cheapest.
use Rattle.std.specs.Prelude.{ℕ, ℤ, pos, List, [], ◌∷◌, ◌++◌, map, Option, Some, None}
use Rattle.std.specs.Int.RustNames.{unsigned_abs}
use Rattle.events.specs.declared.event.Bid.{Bid}
use Rattle.events.specs.declared.event.Event.{Event}
use Rattle.events.specs.declared.event.Event.TheVariants.{Given, Par, President, Sold}
use Rattle.totals.specs.Bids.{bids_on}
use Rattle.totals.specs.LookBack.{cheapest_of}
use Rattle.privates.specs.Auction.{Bidder, auction_of}
use Rattle.privates.specs.Limit.{auction_limit}
use Rattle.privates.specs.ParOfBo.{par_set_by}
use Rattle.tables.specs.Steps.{iterate}
use Rattle.tables.specs.declared.roster.Company.TheVariants as company
use Rattle.tables.specs.declared.roster.Private.{Private}
use Rattle.tables.specs.declared.roster.Private.TheVariants.{CamdenAmboy, BaltimoreOhio}
use Rattle.tables.specs.declared.seat.Seat.{Seat}

-- What comes with a private: with CA 1 share of PRR; with BOP the start of BO at the par value that
-- its buyer sets, and the president's certificate of BO, 2 shares.
abbrev pub gifts : List Event → Private → Seat → List Event
gifts events CamdenAmboy buyer = Given company.Pennsylvania buyer 1 ∷ []
gifts events BaltimoreOhio buyer = Par company.BaltimoreOhio (par_set_by events buyer)
    ∷ Given company.BaltimoreOhio buyer 2 ∷ President company.BaltimoreOhio buyer ∷ []
gifts events other buyer = []

-- after the sale of a private to a buyer at this price
abbrev pub after_private_sale : List Event → Private → Seat → ℕ → List Event
after_private_sale events private buyer price = events ++ Sold private buyer price ∷ gifts events private buyer

-- a bidder in the auction of a private, with a bid and a limit
abbrev pub bidder_of : ℕ → List Event → Private → Bid → Bidder
bidder_of seats events private bid = (bid.seat, pos bid.amount, auction_limit seats events private bid)

-- after a sale to the winner of an auction, who pays this; no price is less than 0
abbrev pub after_auction : List Event → Private → Seat × ℤ → List Event
after_auction events private won = after_private_sale events private won.0 (unsigned_abs won.1)

-- after the bids on the cheapest private are settled, which are these
abbrev pub settled_by : ℕ → List Event → Private → List Bid → List Event
settled_by seats events private [] = events
settled_by seats events private (bid ∷ []) = after_private_sale events private bid.seat bid.amount
settled_by seats events private bids = after_auction events private
    (auction_of (map (bidder_of seats events private) bids))

-- after the bids on the cheapest private, if there is one, are settled
abbrev pub settled_of : ℕ → List Event → Option Private → List Event
settled_of seats events None = events
settled_of seats events (Some private) = settled_by seats events private (bids_on seats events private)

-- one step of the sales that follow from a sale: the cheapest private is sold if there are bids on
-- it
abbrev pub settle_auctions : ℕ → List Event → List Event
settle_auctions seats events = settled_of seats events (cheapest_of events)

-- after the sales that follow from a sale: as there are six privates, nothing is left to settle
-- then
unfoldable pub settled : ℕ → List Event → List Event
settled seats events = iterate (settle_auctions seats) 6 events
