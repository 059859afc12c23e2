-- The rows of a stock round that is awaited are as the reports say.
use Rattle.std.proofs.Common.{◌≡◌, ℕ, List, [], ◌∷◌, map, Option, None, refl, sym, ap, subst, ◌∙◌}
use Rattle.std.specs.List.{AllByRecursion}
use Rattle.desk_promise.proofs.Longer.{by_stock_close}
use Rattle.desk_promise.proofs.Moved.{only_stock}
use Rattle.desk_promise.proofs.Names.{ReadWhereSpelt}
use Rattle.desk_promise.proofs.Ruled.{by_stock_line}
use Rattle.desk_promise.proofs.SheetHead.{SpellingIsRead}
use Rattle.desk_promise.proofs.TurnPromise.{turn_reported}
use Rattle.desk_promise.proofs.TurnSheets.{OneIsPlain, ReadAgain, line_at}
use Rattle.desk_promise.specs.LineFile.{IsOfTurns, line_file, turn_of_one}
use Rattle.desk_promise.specs.TurnRows.{IsAsReported, StockRowsAreReported}
use Rattle.events.specs.declared.event.Event.{Event}
use Rattle.events.specs.declared.ruling.Refusal.{Refusal}
use Rattle.foresight.specs.Reached.{HeadsAreReached}
use Rattle.moves.specs.RowLaws.{StockRowsAreRuled, rule_told}
use Rattle.moves.specs.StockRows.{stock_answer, stock_orders, stock_row}
use Rattle.order_grammar.specs.declared.order.Order.TheVariants.{Play}
use Rattle.order_grammar.specs.declared.play.PlayOrder.{PlayOrder}
use Rattle.rounds.proofs.OneGame.{EachStockRoundEnds, OneOpeningRound, OneStockRound}
use Rattle.rounds.specs.Begun.{RoundsOnlyAdd}
use Rattle.rounds.specs.OperatingRound.{OneOperatingRound}
use Rattle.rounds.specs.ReadAlike.{SameSheetsAreReadAlike}
use Rattle.sheets.specs.Laws.{ThreeToSixPlay}
use Rattle.stock_round.specs.Deals.{no_deals}
use Rattle.stock_round.specs.Orders.{stock_refusal}
use Rattle.stock_round.specs.Turn.{stock_line_ruling, stock_rules}
use Rattle.tables.specs.declared.roster.Company.{Company}
use Rattle.tables.specs.declared.round.Round.TheVariants.{Stock}
use Rattle.turns.specs.Acted.{TurnsSayWhoActed}
use Rattle.turns.specs.RoundOfTurns.{in_turn}
use Rattle.turns.specs.Ruling.{judged}

-- what holds of the row of each order holds of all rows
pub each_mapped : {A B : Type 0} (P : B → Type 0) (f : A → B) → ((a : A) → P (f a)) → (all : List A)
    → AllByRecursion P (map f all)
each_mapped P f each [] = tt
each_mapped P f each (a ∷ all) = (each a, each_mapped P f each all)

pub stock_rows_reported : ReadWhereSpelt → SpellingIsRead → ReadAgain → OneIsPlain → SameSheetsAreReadAlike → RoundsOnlyAdd
    → ThreeToSixPlay → OneOpeningRound → OneStockRound → OneOperatingRound → EachStockRoundEnds
    → TurnsSayWhoActed stock_rules → HeadsAreReached stock_rules → StockRowsAreRuled → StockRowsAreReported
stock_rows_reported spelt is_read again plain alike adds players one_opening one_stock one_operating ends say reached rows
    file last set seat turn accepted end plays comes its own head =
    each_mapped (IsAsReported file last.game (Stock set) seat) (stock_row turn.history seat turn.bought)
    (λ (order : PlayOrder) (fit : IsOfTurns order) also text report.
    let told : Option Company → Option Refusal = λ (bought : Option Company). rule_told (stock_answer turn.history seat bought (Play order)) in
    let law : stock_line_ruling turn.history.seats seat (in_turn turn.history.events no_deals) (line_at 2 (Play order))
    ≡ judged None (Play order) (told None) =
    rows turn.history seat no_deals (line_at 2 (Play order)) (Play order) refl (record { read = refl; met = refl })
    in
    let ruled : stock_line_ruling last.game.seats seat (in_turn turn.history.events no_deals) (line_at 2 (Play order))
    ≡ judged None (Play order) (told turn.bought) =
    subst (λ (seats : ℕ). stock_line_ruling seats seat (in_turn turn.history.events no_deals) (line_at 2 (Play order))
    ≡ judged None (Play order) (told turn.bought)) head.seats
    (law ∙ ap (λ (bought : Option Company). judged None (Play order) (told bought)) (sym head.nothing))
    in
    let ended = ends (line_file file (Stock set) seat (turn_of_one order)) (Stock set) last.game in
    let done = by_stock_line last.game.seats seat (in_turn turn.history.events no_deals) (line_at 2 (Play order)) order
    (stock_refusal turn.history seat turn.bought (Play order)) (only_stock turn.history seat turn.bought order fit) ruled in
    record {
      moved = done.moved;
      as_told = done.as_told;
      reported =
          turn_reported spelt is_read again plain file accepted end (Stock set) tt its seat own order fit also
          alike adds players one_opening one_stock one_operating last plays comes stock_rules say
          (λ (seats : ℕ) (events : List Event). by_stock_close events)
          reached turn.history.events head.there refl refl (judged None (Play order) (told turn.bought)) done.moved
          done.goes_on ended.new ended.played ended.played text report;
    })
    (stock_orders turn.history.events seat)
