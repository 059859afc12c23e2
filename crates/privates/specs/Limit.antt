-- A LIMIT: a standing line that says how far a seat goes in an auction of a private, which must be
-- unsold.
use Rattle.std.specs.Prelude.{ℕ, ℤ, pos, List, [], ◌∷◌, Option, Some, None}
use Rattle.std.specs.Int.{int_max, int_min}
use Rattle.events.specs.declared.event.Bid.{Bid}
use Rattle.events.specs.declared.event.Event.{Event}
use Rattle.events.specs.declared.ruling.OpeningRule.{OpeningRule}
use Rattle.events.specs.declared.ruling.OpeningRule.TheVariants.{Sold}
use Rattle.totals.specs.Bids.{free_for}
use Rattle.totals.specs.LookBack.{is_sold}
use Rattle.totals.specs.Orders.{bid_limit_of}
use Rattle.tables.specs.Rules.{Rule}
use Rattle.tables.specs.declared.roster.Private.{Private}

-- The rule that a LIMIT may break. It is:
--
-- - the private is sold.
abbrev pub limit_rules : List Event → Private → List (Rule OpeningRule)
limit_rules events private = record { code = Sold; broken = is_sold events private } ∷ []

-- The limit of a bidder who bid this much, by the limit that they ordered, if they did, and by what
-- they can spend. It is at least the bid, and without an order no more.
abbrev pub limit_from : ℤ → Option ℕ → ℤ → ℤ
limit_from bid None free = bid
limit_from bid (Some ordered) free = int_max bid (int_min (pos ordered) free)

-- how far a bidder goes in the auction of a private
abbrev pub auction_limit : ℕ → List Event → Private → Bid → ℤ
auction_limit seats events private bid =
    limit_from (pos bid.amount) (bid_limit_of events private bid.seat) (free_for seats events bid.seat private)
