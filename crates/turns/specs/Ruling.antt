-- The one way to rule a line. What becomes of it is the first of four that applies:
--
-- 1. its own fault;
-- 2. its order has no place where the line is;
-- 3. the condition of its order does not hold;
-- 4. the first rule that the order breaks.
--
-- Otherwise it is obeyed. That is recorded, and an order that is obeyed is done. Each family of
-- lines has rules of its own: which orders have a place in them, by which rules these are judged,
-- and what an order brings.
use Rattle.std.specs.Prelude.{◌≡◌, ℕ, Bool, true, false, IsTrue, not, if◌then◌else◌, List, [], ◌∷◌, ◌++◌, Option, Some}
use Rattle.std.specs.Prelude.{None, Result, Ok, Err}
use Rattle.events.specs.declared.event.Event.{Event}
use Rattle.events.specs.declared.event.Event.TheVariants as event
use Rattle.events.specs.declared.ruling.Refusal.{Refusal}
use Rattle.events.specs.declared.ruling.Refusal.TheVariants as refusal
use Rattle.events.specs.declared.ruling.Ruling.{Ruling}
use Rattle.events.specs.declared.ruling.Ruling.TheVariants.{Obeyed, Refused, Faulty}
use Rattle.events.specs.Event.{order_obeyed}
use Rattle.history.specs.Conditions.{is_met}
use Rattle.order_grammar.specs.declared.condition.Condition.{Condition}
use Rattle.order_grammar.specs.declared.fault.Fault.{Fault}
use Rattle.order_grammar.specs.declared.order.Order.{Order}
use Rattle.sheets.specs.Part.{Numbered}
use Rattle.sheets.specs.Place.{is_of_file, placed}
use Rattle.tables.specs.declared.seat.Seat.{Seat}
use Rattle.turns.specs.RoundOfTurns.{InTurn, in_turn}

-- what becomes of an order that is under this condition, if any, and breaks this rule first, or
-- none
abbrev pub judged : Option Condition → Order → Option Refusal → Ruling
judged condition order None = Obeyed condition order
judged condition order (Some rule) = Refused rule condition order

-- the first rule that an order under this condition breaks, as the list is: its condition comes
-- before the rules of its family
abbrev pub refusal_under : List Event → Option Condition → (Order → Option Refusal) → Order → Option Refusal
refusal_under events condition judgement order =
    if is_met events condition then judgement order else Some refusal.Condition

-- what becomes of an order that has a place, judged by these rules, or of a fault
abbrev pub placed_ruling : (Order → Option Refusal) → Option Condition → Result Order Fault → Ruling
placed_ruling judgement condition (Err fault) = Faulty fault
placed_ruling judgement condition (Ok order) = judged condition order (judgement order)

-- what becomes of a line with this condition and this reading, if the orders that pass this test
-- have a place
abbrev pub ruling_of : (Order → Bool) → (Order → Option Refusal) → Option Condition → Result Order Fault → Ruling
ruling_of has_place judgement condition reading = placed_ruling judgement condition (placed has_place reading)

-- what becomes of a line, as the list is, if the family judges by these rules
abbrev pub line_ruling : (Order → Bool) → (Order → Option Refusal) → List Event → Numbered → Ruling
line_ruling has_place judgement events line =
    ruling_of has_place (refusal_under events line.condition judgement) line.condition line.reading

-- with the ruling of the line of a seat's sheet with this number
abbrev pub recorded : Seat → ℕ → Ruling → List Event → List Event
recorded seat number ruling events = events ++ event.Ruled seat number ruling ∷ []

-- after an order that is to be done, if there is one
abbrev pub done : {State : Type 0} → (State → Order → State) → State → Option Order → State
done act state None = state
done act state (Some order) = act state order

-- a line is obeyed, as the list is, and this order is to be done
pub record IsToDo (has_place : Order → Bool) (judgement : Order → Option Refusal) (events : List Event)
    (line : Numbered) (order : Order) : Type 0 where
  pub read : line.reading ≡ Ok order
  pub met : IsTrue (is_met events line.condition)
  pub kept : judgement order ≡ None
  pub obeyed : order_obeyed (line_ruling has_place judgement events line) ≡ Some order

-- whether this order of a line is obeyed, as the list is, and is to be done: otherwise none is
abbrev pub IsOrderToDo : (Order → Bool) → (Order → Option Refusal) → List Event → Numbered → Order → Bool → Type 0
IsOrderToDo has_place judgement events line order true = IsToDo has_place judgement events line order
IsOrderToDo has_place judgement events line order false =
    order_obeyed (line_ruling has_place judgement events line) ≡ None

-- an order of a written turn is one of play
abbrev pub has_place_in_turn : Order → Bool
has_place_in_turn order = not (is_of_file order)

-- in a turn of a seat, after a line with this number and this ruling, where an order that is done
-- leads so far
abbrev pub after_ruling : {TurnActions : Type 0} → (InTurn TurnActions → Order → InTurn TurnActions) → Seat
    → InTurn TurnActions → ℕ → Ruling → InTurn TurnActions
after_ruling act seat turn number ruling =
    done act (in_turn (recorded seat number ruling turn.events) turn.actions) (order_obeyed ruling)
