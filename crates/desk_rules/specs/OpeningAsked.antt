-- The rules that an order of an opening breaks at a moment of a game. That the turn has bought or bid is a rule of steps, and
-- is not asked. If the private is sold, nothing else is asked of it.
use Rattle.std.specs.Prelude.{ℕ, Bool, true, false, not, List, [], ◌∷◌}
use Rattle.desk_map_rules.specs.Broken.{broken_of}
use Rattle.events.specs.declared.event.Event.{Event}
use Rattle.events.specs.declared.ruling.OpeningRule.{OpeningRule}
use Rattle.events.specs.declared.ruling.OpeningRule.TheVariants as of_opening
use Rattle.events.specs.declared.ruling.Refusal.{Refusal}
use Rattle.events.specs.declared.ruling.Refusal.TheVariants as refusal
use Rattle.order_grammar.specs.declared.play.PlayOrder.{PlayOrder}
use Rattle.order_grammar.specs.declared.play.PlayOrder.TheVariants as play
use Rattle.privates.specs.Bid.{bid_rules}
use Rattle.privates.specs.Buy.{private_purchase_rules}
use Rattle.privates.specs.Limit.{limit_rules}
use Rattle.privates.specs.ParOfBo.{par_rules}
use Rattle.tables.specs.declared.roster.Private.{Private}
use Rattle.tables.specs.declared.seat.Seat.{Seat}
use Rattle.totals.specs.LookBack.{Game, is_sold}

-- a rule of an opening is asked of a private that is sold or not
abbrev pub is_asked_in_opening : Bool → OpeningRule → Bool
is_asked_in_opening sold of_opening.Sold = true
is_asked_in_opening sold of_opening.TurnUsed = false
is_asked_in_opening sold other = not sold

-- the rules that the purchase of a private from the bank breaks
abbrev pub bank_private_broken : Game → Seat → Private → List Refusal
bank_private_broken game seat private =
    broken_of (is_asked_in_opening (is_sold game.events private)) refusal.Opening
    (private_purchase_rules game.seats game.events seat false private)

-- the rules that a bid breaks
abbrev pub bid_broken : Game → Seat → Private → ℕ → List Refusal
bid_broken game seat private amount =
    broken_of (is_asked_in_opening (is_sold game.events private)) refusal.Opening
    (bid_rules game.seats game.events seat false private amount)

-- the rules that an order in a turn of an opening breaks: one that neither buys nor bids breaks that one
abbrev pub opening_broken : Game → Seat → PlayOrder → List Refusal
opening_broken game seat (play.BuyPrivate private) = bank_private_broken game seat private
opening_broken game seat (play.Bid private amount) = bid_broken game seat private amount
opening_broken game seat other = refusal.Opening of_opening.NotOfOpening ∷ []

-- The rules that an order above the first turn of a sheet for an opening breaks. An order that has no place there has a fault,
-- and breaks none.
abbrev pub before_turns_broken : List Event → PlayOrder → List Refusal
before_turns_broken events (play.Limit private amount) =
    broken_of (λ rule. true) refusal.Opening (limit_rules events private)
before_turns_broken events (play.Par company price) =
    broken_of (λ rule. true) refusal.Opening (par_rules company price)
before_turns_broken events other = []
