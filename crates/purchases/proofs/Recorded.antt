-- A line that was recorded, and whose order is to be done: it breaks no rule, and is recorded as
-- obeyed.
use Rattle.std.proofs.Common.{◌≡◌, true, Option, Some, None, is_none, is_some, refl}
use Rattle.events.specs.declared.event.Event.TheVariants as event
use Rattle.events.specs.declared.ruling.Refusal.{Refusal}
use Rattle.events.specs.declared.ruling.Ruling.TheVariants.{Obeyed}
use Rattle.totals.specs.LookBack.{Game, with_event}
use Rattle.order_grammar.specs.declared.order.Order.{Order}
use Rattle.sheets.specs.Part.{Numbered}
use Rattle.tables.specs.declared.seat.Seat.{Seat}
use Rattle.turns.specs.Ruling.{judged}

-- no rule of its own kind is broken where no rule is
pub kept_all : {Rule : Type 0} (broken : Option Rule) (refusal : Option Refusal) → is_none refusal ≡ true
    → is_some refusal ≡ is_some broken →
    broken ≡ None
kept_all None refusal none same = refl
kept_all (Some rule) None none same = absurd (cc)
kept_all (Some rule) (Some other) none same = absurd (cc)

-- a list gained the ruling that the order is obeyed
pub recorded_obeyed : (game recorded : Game) (seat : Seat) (line : Numbered) (order : Order) (refusal : Option Refusal)
    → recorded ≡ with_event game (event.Ruled seat line.number (judged line.condition order refusal))
    → is_none refusal ≡ true →
    recorded ≡ with_event game (event.Ruled seat line.number (Obeyed line.condition order))
recorded_obeyed game recorded seat line order None is_recorded none = is_recorded
recorded_obeyed game recorded seat line order (Some rule) is_recorded none = absurd (cc)
