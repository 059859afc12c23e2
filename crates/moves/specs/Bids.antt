-- The least bid on a private that is not too low: 5 over the face and over each earlier bid. No bid
-- names more than 4,294,967,295 dollars.
use Rattle.std.specs.Prelude.{◌≡◌, ◌≤◌, ℕ, ◌+◌, min, max, false, List, Option, Some, None}
use Rattle.events.specs.declared.event.Event.{Event}
use Rattle.order_grammar.specs.declared.order.Order.TheVariants.{Play}
use Rattle.order_grammar.specs.declared.play.PlayOrder.TheVariants.{Bid}
use Rattle.privates.specs.Turn.{opening_judgement}
use Rattle.tables.specs.Roster.{face_of}
use Rattle.tables.specs.declared.roster.Private.{Private}
use Rattle.tables.specs.declared.seat.Seat.{Seat}
use Rattle.totals.specs.Bids.{greatest_bid_of}

-- 5 over a sum, as far as a line can name it
abbrev pub step_over : ℕ → ℕ
step_over sum = min (sum + 5) 4294967295

-- the least sum that is no less than this one and 5 over a bid, if there is one
abbrev pub least_over : ℕ → Option ℕ → ℕ
least_over least None = least
least_over least (Some bid) = max least (step_over bid)

-- the least bid on a private: 5 over its face and over the greatest earlier bid on it
abbrev pub least_bid_of : List Event → Private → ℕ
least_bid_of events private = least_over (step_over (face_of private)) (greatest_bid_of events private)

-- if a seat may bid some sum on a private, it may make the least bid on it, which is no more
abbrev pub LeastBidIsLeast : Type 0
LeastBidIsLeast =
    (seats : ℕ) (events : List Event) (seat : Seat) (private : Private) (amount : ℕ) → amount ≤ 4294967295
    → opening_judgement seats events seat false (Play (Bid private amount)) ≡ None
    → (least_bid_of events private ≤ amount)
    × (opening_judgement seats events seat false (Play (Bid private (least_bid_of events private))) ≡ None)
