-- The rows of a company, and RUN BEST, are as the reports say.
use Rattle.std.proofs.Common.{◌≡◌, ℕ, Bool, true, false, List, [], ◌∷◌, ◌++◌, Option, Some, None}
use Rattle.std.proofs.Common.{refl, sym, ap, subst, ◌∙◌, arith}
use Rattle.std.specs.Prelude.{if◌then◌else◌, not, ◌||◌}
use Rattle.std.proofs.Math.Bool.{or-false}
use Rattle.desk_promise.proofs.CompanyPromise.{Laws, order_stands}
use Rattle.desk_promise.proofs.LaysTold.{as_said, from_start}
use Rattle.desk_promise.proofs.Longer.{both_added, stays}
use Rattle.desk_promise.proofs.LongerTurns.{Lengthens}
use Rattle.desk_promise.proofs.Moved.{Moved}
use Rattle.desk_promise.proofs.OrdersMoved.{by_private_line, by_train_line, row_in_report}
use Rattle.desk_promise.proofs.OrdersReached.{by_added, is_head, starts}
use Rattle.desk_promise.proofs.StockPromise.{each_mapped}
use Rattle.desk_promise.proofs.TurnSheets.{line_at}
use Rattle.desk_promise.specs.CompanyLines.{IsHeadAwaited, IsReportedSo, obeyed, order_file, refused, ruled_second}
use Rattle.desk_promise.specs.CompanyRows.{BestIsReported, IsRowReported, PrivateRowsAreReported, TrainRowsAreReported}
use Rattle.desk_promise.specs.Moves.{MovesInOrders}
use Rattle.events.specs.declared.event.Event.{Event}
use Rattle.events.specs.declared.event.Event.TheVariants as event
use Rattle.events.specs.declared.ruling.Refusal.TheVariants as refusal
use Rattle.forced_purchase.specs.declared.operator.Operator.{Operator}
use Rattle.foresight.specs.Ahead.{OrdersState, withheld_in}
use Rattle.legal_runs.specs.Set.{IsGreatest}
use Rattle.map_tables.specs.declared.rules.RunRule.{RunRule}
use Rattle.map_tables.specs.declared.rules.RunRule.TheVariants.{NoTrain}
use Rattle.moves.specs.CompanyRows.{PrivateOrder, TrainOrder, private_answer, private_orders, private_row, train_answer}
use Rattle.moves.specs.CompanyRows.{train_orders, train_row}
use Rattle.moves.specs.RowLaws.{PrivateRowsAreRuled, TrainRowsAreRuled, rule_told}
use Rattle.moves.specs.declared.row.Answer.{Answer}
use Rattle.operating.proofs.TurnGames.{of_steps}
use Rattle.operating.proofs.TurnLaws.{adds_by}
use Rattle.operating.proofs.TurnSteps.{of_withheld_if_unpaid}
use Rattle.operating.specs.CompanyOrders.{OrderLeads}
use Rattle.operating.specs.Laws.{OnlyAdds}
use Rattle.operating.specs.MapState.{position_now}
use Rattle.operating.specs.Pay.{withheld_if_unpaid}
use Rattle.operating.specs.Progress.{at_start, has_any_run}
use Rattle.operating.specs.RunBest.{BestRuled, trains_now}
use Rattle.operating.specs.TurnState.{TurnState, turn_state}
use Rattle.order_grammar.specs.declared.order.Order.TheVariants.{Play}
use Rattle.order_grammar.specs.declared.play.PlayOrder.{PlayOrder}
use Rattle.order_grammar.specs.declared.play.PlayOrder.TheVariants as play
use Rattle.purchases.specs.Train.{has_trains}
use Rattle.reach.specs.Position.{Position}
use Rattle.rounds.specs.Play.{Between}
use Rattle.tables.specs.declared.rolling_stock.Kind.{Kind}
use Rattle.tables.specs.declared.roster.Company.{Company}
use Rattle.tables.specs.declared.round.Round.{Round}
use Rattle.tables.specs.declared.round.Round.TheVariants.{Operating}
use Rattle.totals.specs.LookBack.{Game}
use Rattle.turns.specs.Ruling.{judged}

-- a company withholds
pub by_withholding : (company : Company) (turn : TurnState) → Lengthens turn.game (withheld_if_unpaid company turn).game
by_withholding company turn =
    by_added (of_withheld_if_unpaid company (λ (a b : TurnState). OnlyAdds a.game b.game)
    (of_steps company OnlyAdds (adds_by company)) turn)

-- no train has run at the start
none_run : has_any_run at_start ≡ false
none_run = refl

-- there is one greatest revenue
greatest_once : (position : Position) (company : Company) (trains : List Kind) (a b : ℕ)
    → IsGreatest position company trains a → IsGreatest position company trains b → a ≡ b
greatest_once position company trains a b first second =
    let below = second.most first.earned.0 first.earned.1 in
    let above = first.most second.earned.0 second.earned.1 in
    omega (arith, below, above, first.earned.2, second.earned.2)

module _ (laws : Laws) (file : List ℕ) (last : Between) (set number : ℕ) (company : Company) (orders : OrdersState)
    (awaited : IsHeadAwaited file last (Operating set number) company orders) where
  abbrev round : Round
  round = Operating set number

  abbrev at_head : TurnState
  at_head = turn_state orders.turn.game at_start

  start : orders.turn ≡ at_head
  start =
      starts orders company awaited.ahead.mid.game
      (is_head file round company orders last.game awaited.ahead)

  train_row_reported : TrainRowsAreRuled → (its : TrainOrder)
      → IsRowReported file last.game round orders.by (withheld_in orders).turn.game
      (train_row (withheld_in orders).turn.game orders.by.company its)
  train_row_reported law its fit also text report =
      let order : PlayOrder = play.BuyTrain its.kind its.from in
      let by : Operator = orders.by in
      let stands = order_stands laws file last set number company orders awaited order fit also text report in
      let led = law by orders.turn.game (line_at 2 (Play order)) its.kind its.from stands.next
      (from_start orders order stands.next start stands.leads) in
      let paid : TurnState → TurnState = λ (turn : TurnState). withheld_if_unpaid by.company turn in
      let answer : TurnState → Answer =
      λ (turn : TurnState). train_answer (paid turn).game by.company its.kind its.from in
      let ruled_at : TurnState → List Event = λ (turn : TurnState). (paid turn).game.events
      ++ ruled_second by (judged None (Play order) (rule_told (answer turn))) ∷ [] in
      let told : Moved (answer at_head) (MovesInOrders (paid at_head).game by order) (ruled_at at_head)
      stands.next.game.events =
      subst (λ (turn : TurnState). Moved (answer at_head) (MovesInOrders (paid at_head).game by order) (ruled_at at_head)
      turn.game.events) (sym led)
      (by_train_line by (paid at_head) (line_at 2 (Play order)) its.kind its.from) in
      row_in_report (order_file file round by order) text last.game round by (withheld_in orders).turn.game
      (train_row (withheld_in orders).turn.game by.company its) stands.next.game.events
      (λ said goes_on. stands.reports (withheld_in orders).turn.game said (by_withholding by.company orders.turn) goes_on)
      (subst (λ (turn : TurnState). Moved (answer turn) (MovesInOrders (paid turn).game by order) (ruled_at turn)
      stands.next.game.events) (sym start) told)

  private_row_reported : PrivateRowsAreRuled → (its : PrivateOrder)
      → IsRowReported file last.game round orders.by orders.turn.game (private_row orders.turn.game orders.by.company its)
  private_row_reported law its fit also text report =
      let order : PlayOrder = play.BuyOwnedPrivate its.private its.price in
      let by : Operator = orders.by in
      let stands = order_stands laws file last set number company orders awaited order fit also text report in
      let led = law by orders.turn.game (line_at 2 (Play order)) its.private its.price stands.next
      (from_start orders order stands.next start stands.leads) in
      let answer : Answer = private_answer orders.turn.game by.company its.private its.price in
      row_in_report (order_file file round by order) text last.game round by orders.turn.game
      (private_row orders.turn.game by.company its) stands.next.game.events
      (λ said goes_on. stands.reports orders.turn.game said stays goes_on)
      (subst (λ (turn : TurnState). Moved answer (MovesInOrders orders.turn.game by order) (orders.turn.game.events
      ++ ruled_second by (judged None (Play order) (rule_told answer)) ∷ []) turn.game.events) (sym led)
      (by_private_line by at_head (line_at 2 (Play order)) its.private its.price))

  -- RUN BEST at the start of a turn, by whether the company has a train
  best_led : (trains : Bool) (next : TurnState) → has_trains orders.turn.game.events orders.by.company ≡ trains
      → OrderLeads orders.by at_head (line_at 2 (Play play.RunBest)) (Play play.RunBest) next
      → BestRuled orders.by at_head (line_at 2 (Play play.RunBest)) (if not trains then Some NoTrain else None) next
  best_led trains next is leads =
      let rule : Bool → Option RunRule = λ (b : Bool). if b then Some NoTrain else None in
      subst (λ (b : Bool). BestRuled orders.by at_head (line_at 2 (Play play.RunBest)) (rule b) next)
      (ap (λ (b : Bool). not b || has_any_run at_start) is ∙ ap (λ (b : Bool). not trains || b) none_run
      ∙ or-false (not trains))
      leads

  best_credited : has_trains orders.turn.game.events orders.by.company ≡ true → (revenue : ℕ)
      → IsGreatest (position_now orders.turn.game.events) orders.by.company
      (trains_now orders.turn.game.events orders.by.company) revenue
      → IsReportedSo file last.game round orders.by play.RunBest orders.turn.game
      (obeyed orders.by play.RunBest ∷ event.Runs orders.by.company revenue ∷ [])
  best_credited has revenue greatest also text report =
      let stands = order_stands laws file last set number company orders awaited play.RunBest tt also text report in
      let led = best_led true stands.next has (from_start orders play.RunBest stands.next start stands.leads) in
      let same : led.0 ≡ revenue =
      greatest_once (position_now orders.turn.game.events) orders.by.company
      (trains_now orders.turn.game.events orders.by.company) led.0 revenue led.1 greatest in
      let after : ℕ → List Event = λ (amount : ℕ).
      (orders.turn.game.events ++ obeyed orders.by play.RunBest ∷ []) ++ event.Runs orders.by.company amount ∷ [] in
      stands.reports orders.turn.game
      (obeyed orders.by play.RunBest ∷ event.Runs orders.by.company revenue ∷ []) stays
      (as_said _ _ (ap (λ (turn : TurnState). turn.game.events) led.2 ∙ ap after same
      ∙ both_added orders.turn.game.events (obeyed orders.by play.RunBest) (event.Runs orders.by.company revenue)))

  best_without : has_trains orders.turn.game.events orders.by.company ≡ false
      → IsReportedSo file last.game round orders.by play.RunBest orders.turn.game
      (refused orders.by play.RunBest (refusal.Run NoTrain) ∷ [])
  best_without has also text report =
      let stands = order_stands laws file last set number company orders awaited play.RunBest tt also text report in
      let led = best_led false stands.next has (from_start orders play.RunBest stands.next start stands.leads) in
      stands.reports orders.turn.game (refused orders.by play.RunBest (refusal.Run NoTrain) ∷ []) stays
      (as_said _ _ (ap (λ (turn : TurnState). turn.game.events) led))

pub train_rows_reported : Laws → TrainRowsAreRuled → TrainRowsAreReported
train_rows_reported laws law file last set number company orders awaited =
    let now : Game = (withheld_in orders).turn.game in
    each_mapped (IsRowReported file last.game (Operating set number) orders.by now) (train_row now orders.by.company)
    (train_row_reported laws file last set number company orders awaited law) (train_orders now.events)

pub private_rows_reported : Laws → PrivateRowsAreRuled → PrivateRowsAreReported
private_rows_reported laws law file last set number company orders awaited =
    each_mapped (IsRowReported file last.game (Operating set number) orders.by orders.turn.game)
    (private_row orders.turn.game orders.by.company)
    (private_row_reported laws file last set number company orders awaited law) private_orders

pub best_reported : Laws → BestIsReported
best_reported laws file last set number company orders awaited =
    record {
      credited = best_credited laws file last set number company orders awaited;
      without = best_without laws file last set number company orders awaited;
    }
