-- Conditions of orders, as they are checked against a list. PRICE: the company's token has a square
-- whose price by the chart is at least the sum. PHASE: the phase is that of the kind or a later
-- one, in the order 2 3 4 5 6 D. FLOATED: the company has floated.
use Rattle.std.specs.Prelude.{ℕ, nat_le, Bool, true, false, List, Option, Some, None}
use Rattle.events.specs.declared.event.Event.{Event}
use Rattle.totals.specs.Shares.{is_floated, square_of}
use Rattle.totals.specs.Trains.{phase_of}
use Rattle.order_grammar.specs.declared.condition.Condition.{Condition}
use Rattle.order_grammar.specs.declared.condition.Condition.TheVariants.{Price, Phase, Floated}
use Rattle.tables.specs.Chart.{price_of}
use Rattle.tables.specs.Train.{index_of_kind}
use Rattle.tables.specs.declared.rolling_stock.Kind.{Kind}
use Rattle.tables.specs.declared.squares.Square.{Square}

-- a token has a square, and the price there is at least a sum
abbrev pub is_priced_at_least : ℕ → Option Square → Bool
is_priced_at_least sum None = false
is_priced_at_least sum (Some square) = nat_le sum (price_of square)

-- a phase is that of a kind or a later one
abbrev pub has_begun : Kind → Kind → Bool
has_begun kind phase = nat_le (index_of_kind kind) (index_of_kind phase)

-- a condition holds
abbrev pub holds : List Event → Condition → Bool
holds events (Price company sum) = is_priced_at_least sum (square_of events company)
holds events (Phase kind) = has_begun kind (phase_of events)
holds events (Floated company) = is_floated events company

-- the condition of an order holds, if it has one
abbrev pub is_met : List Event → Option Condition → Bool
is_met events None = true
is_met events (Some condition) = holds events condition
