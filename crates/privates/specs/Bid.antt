-- A bid. In a turn a seat may bid on an unsold private that is not the cheapest. It bids at least 5
-- over its face and over every earlier bid on it, whether or not that is held. The bid is held.
use Rattle.std.specs.Prelude.{◌≡◌, ℕ, ◌+◌, Bool, false, ◌||◌, nat_lt, List, [], ◌∷◌, Option, Some, None}
use Rattle.std.specs.List.{list_any}
use Rattle.events.specs.Event.{bidding_of}
use Rattle.events.specs.declared.event.Event.{Event}
use Rattle.events.specs.declared.ruling.OpeningRule.{OpeningRule}
use Rattle.events.specs.declared.ruling.OpeningRule.TheVariants.{Sold, BidTooLow, CashTooSmall, TurnUsed}
use Rattle.events.specs.declared.ruling.OpeningRule.TheVariants.{BidForCheapest}
use Rattle.totals.specs.Bids.{bid_made}
use Rattle.totals.specs.LookBack.{is_sold}
use Rattle.privates.specs.Bank.{MayPay, is_cheapest, is_short}
use Rattle.tables.specs.Roster.{face_of}
use Rattle.tables.specs.Rules.{Rule}
use Rattle.tables.specs.declared.roster.Private.{Private}
use Rattle.tables.specs.declared.seat.Seat.{Seat}

-- a sum is less than 5 over a bid, if there is one
abbrev pub is_near : ℕ → Option ℕ → Bool
is_near amount None = false
is_near amount (Some bid) = nat_lt amount (bid + 5)

-- a sum is less than 5 over some earlier bid on the private
abbrev pub is_near_some : ℕ → List Event → Private → Bool
is_near_some amount events private = list_any (λ event. is_near amount (bid_made private (bidding_of event))) events

-- a bid is too low: it is less than 5 over the face, or over some earlier bid on the private
abbrev pub is_too_low : List Event → Private → ℕ → Bool
is_too_low events private amount = nat_lt amount (face_of private + 5) || is_near_some amount events private

-- The rules that a bid may break, in a turn that has bought or bid before or not. They are:
--
-- - the private is sold;
-- - the bid is too low;
-- - it is over what the seat can spend on the private;
-- - the turn is used;
-- - the private is the cheapest unsold one.
abbrev pub bid_rules : ℕ → List Event → Seat → Bool → Private → ℕ → List (Rule OpeningRule)
bid_rules seats events seat used private amount = record { code = Sold; broken = is_sold events private }
    ∷ record { code = BidTooLow; broken = is_too_low events private amount }
    ∷ record { code = CashTooSmall; broken = is_short seats events seat private amount }
    ∷ record { code = TurnUsed; broken = used } ∷ record { code = BidForCheapest; broken = is_cheapest events private }
    ∷ []

-- the seat can bid this much on the private, whatever its turn has done before
pub record MayBid (seats : ℕ) (events : List Event) (seat : Seat) (private : Private) (amount : ℕ) : Type 0 where
  pub pays : MayPay seats events seat private amount
  pub high : is_too_low events private amount ≡ false
