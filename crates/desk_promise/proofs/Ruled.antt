-- The list after the one line of a turn begins with the ruling of the line, and what its order moves.
use Rattle.std.proofs.Common.{◌≡◌, ℕ, List, Option, Some, None, pos, refl, sym, subst}
use Rattle.desk_promise.proofs.Moved.{IsOfOpening, IsOfStock, Moved, nothing_moves, opening_moved, same_opening_cost}
use Rattle.desk_promise.proofs.Moved.{same_stock_cost, stock_moved}
use Rattle.desk_promise.specs.Moves.{MovesInTurn}
use Rattle.events.specs.declared.event.Event.{Event}
use Rattle.events.specs.declared.ruling.Refusal.{Refusal}
use Rattle.events.specs.declared.ruling.Ruling.{Ruling}
use Rattle.events.specs.declared.ruling.Ruling.TheVariants as ruling
use Rattle.moves.specs.OpeningRows.{opening_cost}
use Rattle.moves.specs.RowLaws.{rule_told}
use Rattle.moves.specs.Rows.{answer_of}
use Rattle.moves.specs.StockRows.{stock_cost}
use Rattle.moves.specs.declared.row.Answer.{Answer}
use Rattle.moves.specs.declared.row.Answer.TheVariants.{Obeyed, Refused}
use Rattle.order_grammar.specs.declared.order.Order.TheVariants.{Play}
use Rattle.order_grammar.specs.declared.play.PlayOrder.{PlayOrder}
use Rattle.privates.specs.Turn.{InOpeningTurn, after_opening_line, after_opening_ruling, opening_line_ruling}
use Rattle.sheets.specs.Part.{Numbered}
use Rattle.stock_round.specs.Turn.{InStockTurn, after_stock_line, after_stock_ruling, stock_line_ruling}
use Rattle.tables.specs.declared.seat.Seat.{Seat}
use Rattle.turns.specs.Ruling.{judged, recorded}

-- what is told of an order of a stock round that breaks this rule first, or none, in a turn of this list
abbrev pub stock_told : List Event → PlayOrder → Option Refusal → Answer
stock_told events its broken = answer_of (pos (stock_cost events (Play its))) broken

-- by a line of a stock round that is ruled so
pub by_stock_line : (seats : ℕ) (seat : Seat) (turn : InStockTurn) (line : Numbered) (its : PlayOrder)
    (broken : Option Refusal) → (broken ≡ None → IsOfStock its)
    → stock_line_ruling seats seat turn line
    ≡ judged line.condition (Play its) (rule_told (stock_told turn.events its broken))
    → Moved (stock_told turn.events its broken) (MovesInTurn seat its)
    (recorded seat line.number (judged line.condition (Play its) (rule_told (stock_told turn.events its broken))) turn.events)
    (after_stock_line seats seat turn line).events
by_stock_line seats seat turn line its None possible ruled =
    let done : Ruling = ruling.Obeyed line.condition (Play its) in
    let there : List Event = recorded seat line.number done turn.events in
    subst (λ (r : Ruling). Moved (stock_told turn.events its None) (MovesInTurn seat its) there
    (after_stock_ruling seats seat turn line.number r).events) (sym ruled)
    (subst (λ (cost : ℕ). Moved (Obeyed (pos cost)) (MovesInTurn seat its) there
    (after_stock_ruling seats seat turn line.number done).events)
    (same_stock_cost turn.events seat line.number done its (possible refl))
    (stock_moved (record { seats = seats; events = there }) seat its (possible refl)))
by_stock_line seats seat turn line its (Some rule) possible ruled =
    let done : Ruling = ruling.Refused rule line.condition (Play its) in
    subst (λ (r : Ruling). Moved (Refused rule) (MovesInTurn seat its) (recorded seat line.number done turn.events)
    (after_stock_ruling seats seat turn line.number r).events) (sym ruled)
    (nothing_moves (Refused rule) (MovesInTurn seat its) (recorded seat line.number done turn.events) refl)

-- what is told of such an order of an opening
abbrev pub opening_told : List Event → PlayOrder → Option Refusal → Answer
opening_told events its broken = answer_of (pos (opening_cost events (Play its))) broken

-- by a line of an opening that is ruled so
pub by_opening_line : (seats : ℕ) (seat : Seat) (turn : InOpeningTurn) (line : Numbered) (its : PlayOrder)
    (broken : Option Refusal) → (broken ≡ None → IsOfOpening its)
    → opening_line_ruling seats seat turn line
    ≡ judged line.condition (Play its) (rule_told (opening_told turn.events its broken))
    → Moved (opening_told turn.events its broken) (MovesInTurn seat its)
    (recorded seat line.number (judged line.condition (Play its) (rule_told (opening_told turn.events its broken)))
    turn.events) (after_opening_line seats seat turn line).events
by_opening_line seats seat turn line its None possible ruled =
    let done : Ruling = ruling.Obeyed line.condition (Play its) in
    let there : List Event = recorded seat line.number done turn.events in
    subst (λ (r : Ruling). Moved (opening_told turn.events its None) (MovesInTurn seat its) there
    (after_opening_ruling seats seat turn line.number r).events) (sym ruled)
    (subst (λ (cost : ℕ). Moved (Obeyed (pos cost)) (MovesInTurn seat its) there
    (after_opening_ruling seats seat turn line.number done).events)
    (same_opening_cost turn.events seat line.number done its (possible refl))
    (opening_moved seats seat there its (possible refl)))
by_opening_line seats seat turn line its (Some rule) possible ruled =
    let done : Ruling = ruling.Refused rule line.condition (Play its) in
    subst (λ (r : Ruling). Moved (Refused rule) (MovesInTurn seat its) (recorded seat line.number done turn.events)
    (after_opening_ruling seats seat turn line.number r).events) (sym ruled)
    (nothing_moves (Refused rule) (MovesInTurn seat its) (recorded seat line.number done turn.events) refl)
