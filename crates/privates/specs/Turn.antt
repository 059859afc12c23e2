-- A seat's turn: the lines of its written turn are ruled in order, each on the list that the one
-- before left. In a turn a seat may buy or bid, once. A seat that neither bought nor bid passes.
use Rattle.std.specs.Prelude.{ℕ, Bool, true, false, List, [], ◌∷◌, ◌++◌, Option, Some, option_map}
use Rattle.events.specs.declared.event.Event.{Event}
use Rattle.events.specs.declared.event.Event.TheVariants.{Bids}
use Rattle.events.specs.declared.ruling.OpeningRule.{OpeningRule}
use Rattle.events.specs.declared.ruling.OpeningRule.TheVariants.{NotOfOpening}
use Rattle.events.specs.declared.ruling.Refusal.{Refusal}
use Rattle.events.specs.declared.ruling.Refusal.TheVariants.{Opening}
use Rattle.events.specs.declared.ruling.Ruling.{Ruling}
use Rattle.order_grammar.specs.declared.order.Order.{Order}
use Rattle.order_grammar.specs.declared.order.Order.TheVariants.{Play}
use Rattle.order_grammar.specs.declared.play.PlayOrder.TheVariants.{BuyPrivate, Bid}
use Rattle.privates.specs.Bank.{MayPay, price_of_private}
use Rattle.privates.specs.Bid.{MayBid, bid_rules}
use Rattle.privates.specs.Buy.{after_private_purchase, private_purchase_rules}
pub use Rattle.privates.specs.Closing.{all_sold}
use Rattle.privates.specs.Closing.{opening_round_closed}
use Rattle.privates.specs.Standing.{after_opening_standing_line}
use Rattle.sheets.specs.Part.{Numbered}
use Rattle.tables.specs.Rules.{first_broken}
use Rattle.tables.specs.declared.seat.Seat.{Seat}
use Rattle.turns.specs.RoundOfTurns.{RoundRules, in_turn}
use Rattle.turns.specs.RoundOfTurns as turns
use Rattle.turns.specs.Ruling.{after_ruling, has_place_in_turn, line_ruling}

-- in a turn: the list so far, and whether the seat has bought or bid
abbrev pub InOpeningTurn : Type 0
InOpeningTurn = turns.InTurn Bool

-- the first rule that an order breaks in a turn; any order but a purchase or a bid breaks the first
abbrev pub opening_judgement : ℕ → List Event → Seat → Bool → Order → Option OpeningRule
opening_judgement seats events seat used (Play (BuyPrivate private)) =
    first_broken (private_purchase_rules seats events seat used private)
opening_judgement seats events seat used (Play (Bid private amount)) =
    first_broken (bid_rules seats events seat used private amount)
opening_judgement seats events seat used other = Some NotOfOpening

-- the first rule that an order breaks in a turn, as a ruling refuses an order
abbrev pub opening_refusal : ℕ → List Event → Seat → Bool → Order → Option Refusal
opening_refusal seats events seat used order = option_map Opening (opening_judgement seats events seat used order)

-- the order can be done, whatever the turn has done before
abbrev pub MayAct : ℕ → List Event → Seat → Order → Type 0
MayAct seats events seat (Play (BuyPrivate private)) = MayPay seats events seat private (price_of_private events private)
MayAct seats events seat (Play (Bid private amount)) = MayBid seats events seat private amount
MayAct seats events seat other = Unit {0}

-- after what follows from an order that was obeyed in a turn
abbrev pub after_opening_order : ℕ → Seat → List Event → Order → List Event
after_opening_order seats seat events (Play (BuyPrivate private)) = after_private_purchase seats seat events private
after_opening_order seats seat events (Play (Bid private amount)) = events ++ Bids private seat amount ∷ []
after_opening_order seats seat events other = events

-- in a turn, after what follows from an order that is done: the seat has bought or bid
abbrev pub turn_after_opening_order : ℕ → Seat → InOpeningTurn → Order → InOpeningTurn
turn_after_opening_order seats seat turn order = in_turn (after_opening_order seats seat turn.events order) true

-- in a turn, after a line with this number and this ruling
abbrev pub after_opening_ruling : ℕ → Seat → InOpeningTurn → ℕ → Ruling → InOpeningTurn
after_opening_ruling seats seat turn number ruling =
    after_ruling (turn_after_opening_order seats seat) seat turn number ruling

-- what becomes of a line of a written turn
abbrev pub opening_line_ruling : ℕ → Seat → InOpeningTurn → Numbered → Ruling
opening_line_ruling seats seat turn line =
    line_ruling has_place_in_turn (opening_refusal seats turn.events seat turn.actions) turn.events line

-- in a turn, after a line of a written turn
abbrev pub after_opening_line : ℕ → Seat → InOpeningTurn → Numbered → InOpeningTurn
after_opening_line seats seat turn line =
    after_opening_ruling seats seat turn line.number (opening_line_ruling seats seat turn line)

-- The rules of an opening round. A seat that bought or bid has acted. The turns are over once all
-- privates are sold, even if not all seats have passed in succession.
abbrev pub opening_rules : RoundRules Bool
opening_rules = record {
  standing = after_opening_standing_line;
  nothing = false;
  line = after_opening_line;
  has_acted = λ acted. acted;
  over = all_sold;
  closed = opening_round_closed;
}
