-- What the ruling of a line says of its order.
use Rattle.std.proofs.Common.{◌≡◌, ℕ, Bool, true, false, if◌then◌else◌, Option, Some, None, option_map, List, Result}
use Rattle.std.proofs.Common.{Ok, Err, refl}
use Rattle.events.specs.declared.event.Event.{Event}
use Rattle.events.specs.declared.ruling.Refusal.{Refusal}
use Rattle.events.specs.declared.ruling.Refusal.TheVariants as refusal
use Rattle.events.specs.declared.ruling.Ruling.{Ruling}
use Rattle.events.specs.declared.ruling.Ruling.TheVariants.{Obeyed, Refused, Faulty}
use Rattle.events.specs.Event.{order_obeyed}
use Rattle.history.specs.Conditions.{is_met}
use Rattle.order_grammar.specs.declared.condition.Condition.{Condition}
use Rattle.order_grammar.specs.declared.fault.Fault.{Fault}
use Rattle.order_grammar.specs.declared.fault.Fault.TheVariants.{OutOfPlace}
use Rattle.order_grammar.specs.declared.order.Order.{Order}
use Rattle.sheets.specs.Part.{Numbered}
use Rattle.tables.specs.declared.seat.Seat.{Seat}
use Rattle.turns.specs.RoundOfTurns.{InTurn, in_turn}
use Rattle.turns.specs.Ruling.{after_ruling, judged, line_ruling, placed_ruling, recorded}
use Rattle.turns.specs.Ruling.{refusal_under, ruling_of}
use Rattle.turns.specs.Small.{IsSmallOrder, IsSmallReading, IsSmallRuling}

-- a small order is ruled as one
small_judged : (condition : Option Condition) (order : Order) (broken : Option Refusal) → IsSmallOrder order →
    IsSmallRuling (judged condition order broken)
small_judged condition order None small = small
small_judged condition order (Some rule) small = tt

-- whether it has a place or not
small_if_placed : (has : Bool) (judgement : Order → Option Refusal) (condition : Option Condition) (order : Order) →
    IsSmallOrder order → IsSmallRuling (placed_ruling judgement condition (if has then Ok order else Err OutOfPlace))
small_if_placed true judgement condition order small = small_judged condition order (judgement order) small
small_if_placed false judgement condition order small = tt

-- so is a small line, by its condition and its reading
small_ruling_of : (has_place : Order → Bool) (judgement : Order → Option Refusal) (condition : Option Condition)
    (reading : Result Order Fault) → IsSmallReading reading
    → IsSmallRuling (ruling_of has_place judgement condition reading)
small_ruling_of has_place judgement condition (Err fault) small = tt
small_ruling_of has_place judgement condition (Ok order) small =
    small_if_placed (has_place order) judgement condition order small

-- so is a small line
pub small_ruling : (has_place : Order → Bool) (judgement : Order → Option Refusal) (events : List Event)
    (line : Numbered) →
    IsSmallReading line.reading → IsSmallRuling (line_ruling has_place judgement events line)
small_ruling has_place judgement events line small =
    small_ruling_of has_place (refusal_under events line.condition judgement) line.condition line.reading small

-- a family's own rule is broken where it is as a refusal
pub none_as_refusal : {Rule : Type 0} (refusal : Rule → Refusal) (broken : Option Rule)
    → option_map refusal broken ≡ None → broken ≡ None
none_as_refusal refusal None none = refl
none_as_refusal refusal (Some rule) none = absurd (cc)

-- an order breaks none of the rules of its family where it breaks none with its condition
kept_under : (met : Bool) (broken : Option Refusal) → (if met then broken else Some refusal.Condition) ≡ None
    → broken ≡ None
kept_under true broken none = none
kept_under false broken none = absurd (cc)

-- what holds after each order that is done, and after each ruling by which none is, holds after a
-- line of a turn
module _ {TurnActions : Type 0} (act : InTurn TurnActions → Order → InTurn TurnActions)
    (judgement : Order → Option Refusal) (seat : Seat) (turn : InTurn TurnActions) (number : ℕ)
    (P : InTurn TurnActions → Type 0)
    (left : (ruling : Ruling) → order_obeyed ruling ≡ None
    → P (in_turn (recorded seat number ruling turn.events) turn.actions))
    (each : (condition : Option Condition) (order : Order) → judgement order ≡ None
    → P (after_ruling act seat turn number (Obeyed condition order))) where
  -- of an order that breaks this rule first, or none
  of_judged : (condition : Option Condition) (order : Order) (broken : Option Refusal)
      → (broken ≡ None → judgement order ≡ None) → P (after_ruling act seat turn number (judged condition order broken))
  of_judged condition order None is = each condition order (is refl)
  of_judged condition order (Some rule) is = left (Refused rule condition order) refl

  -- of one that has a place, or not
  of_if_placed : (has : Bool) (events : List Event) (condition : Option Condition) (order : Order) →
      P (after_ruling act seat turn number (placed_ruling (refusal_under events condition judgement) condition
      (if has then Ok order else Err OutOfPlace)))
  of_if_placed true events condition order =
      of_judged condition order (refusal_under events condition judgement order)
      (kept_under (is_met events condition) (judgement order))
  of_if_placed false events condition order = left (Faulty OutOfPlace) refl

  -- of a line with this condition and this reading
  of_read : (has_place : Order → Bool) (events : List Event) (condition : Option Condition)
      (reading : Result Order Fault) →
      P (after_ruling act seat turn number (ruling_of has_place (refusal_under events condition judgement) condition reading))
  of_read has_place events condition (Err fault) = left (Faulty fault) refl
  of_read has_place events condition (Ok order) = of_if_placed (has_place order) events condition order

  -- of a line
  pub of_ruled : (has_place : Order → Bool) (events : List Event) (line : Numbered) →
      P (after_ruling act seat turn number (line_ruling has_place judgement events line))
  of_ruled has_place events line = of_read has_place events line.condition line.reading
