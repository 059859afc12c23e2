-- Orders and rulings as events keep them, in few bytes; an order under a condition is in a box.
use Rattle.std.specs.Prelude.{◌<◌, length, Option, Some, None}
use Rattle.events.specs.PackedRun.{places_in}
use Rattle.events.specs.declared.packed.PackedOrder.{PackedOrder}
use Rattle.events.specs.declared.packed.PackedOrder.TheVariants as packed
use Rattle.events.specs.declared.packed.OrderVerdict.{OrderVerdict}
use Rattle.events.specs.declared.packed.OrderVerdict.TheVariants as by
use Rattle.events.specs.declared.packed.PackedForm.{PackedForm}
use Rattle.events.specs.declared.packed.PackedForm.TheVariants as packed_form
use Rattle.events.specs.declared.packed.PackedRulingForm.{PackedRulingForm}
use Rattle.events.specs.declared.packed.PackedRulingForm.TheVariants as ruled
use Rattle.events.specs.declared.ruling.Ruling.{Ruling}
use Rattle.events.specs.declared.ruling.Ruling.TheVariants.{Obeyed, Refused, Faulty}
use Rattle.events.specs.declared.ruling.Verdict.{Verdict}
use Rattle.events.specs.declared.ruling.Verdict.TheVariants as verdict
use Rattle.order_grammar.specs.Condition.{Ordered, ordered}
pub use Rattle.order_grammar.specs.declared.condition.Condition.{Condition}
use Rattle.order_grammar.specs.declared.order.Order.{Order}
use Rattle.order_grammar.specs.declared.order.Order.TheVariants as order
use Rattle.order_grammar.specs.declared.play.PlayOrder.{PlayOrder}

-- an order that is packed in a box: one under a condition, a run of more than five places, or a line
-- that is no order of play
abbrev pub TakesBox : Option Condition → Order → Type 0
TakesBox None (order.Run kind run) = 5 < length run
TakesBox None (order.Play its) = ⊥
TakesBox None other = Unit {0}
TakesBox (Some condition) order = Unit {0}

-- the order that is packed
abbrev pub order_in : PackedOrder → Order
order_in (packed.Play its) = order.Play its
order_in (packed.ShortRun kind run) = order.Run kind (places_in run)
order_in (packed.LongRun kind run) = order.Run kind run.value
order_in (packed.Boxed order) = order.value

-- the order that is packed with its condition, if it has one
abbrev pub ordered_in : PackedForm → Ordered
ordered_in (packed_form.Plain order) = ordered None (order_in order)
ordered_in (packed_form.Conditional order) = ordered (Some order.value.condition) (order_in order.value.order)

-- an order with its condition, if it has one, and its verdict
abbrev pub ruling_by : OrderVerdict → Option Condition → Order → Ruling
ruling_by by.Obeyed condition order = Obeyed condition order
ruling_by (by.Refused rule) condition order = Refused rule condition order

-- the ruling that is packed
abbrev pub ruling_in : PackedRulingForm → Ruling
ruling_in (ruled.Play verdict its) = ruling_by verdict None (order.Play its)
ruling_in (ruled.ShortRun verdict kind run) = ruling_by verdict None (order.Run kind (places_in run))
ruling_in (ruled.LongRun verdict kind run) = ruling_by verdict None (order.Run kind run.value)
ruling_in (ruled.Boxed verdict order) = ruling_by verdict None order.value
ruling_in (ruled.Conditional verdict order) =
    ruling_by verdict (Some order.value.condition) (order_in order.value.order)
ruling_in (ruled.Faulty fault) = Faulty fault

-- what became of an order
abbrev pub verdict_in : OrderVerdict → Verdict
verdict_in by.Obeyed = verdict.Obeyed
verdict_in (by.Refused rule) = verdict.Refused rule

-- the order of play, if there is one and it is no run through places
abbrev pub play_in : Option Order → Option PlayOrder
play_in (Some (order.Play its)) = Some its
play_in other = None
