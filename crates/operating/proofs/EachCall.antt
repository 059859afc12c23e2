-- What holds of each call that a company's turn can make, and that succeeds, holds of each call of
-- its course if that leads on.
use Rattle.std.proofs.Common.{◌≡◌, ℕ, zero, suc, Bool, true, false, List, [], ◌∷◌, ◌++◌, Some, None, Result, Ok, Err}
use Rattle.std.proofs.Common.{sym, subst, inl, inr}
use Rattle.std.specs.List.{AllByRecursion}
use Rattle.std.specs.Prelude.{Option, pos}
use Rattle.legal_runs.specs.declared.runner.RunnerFault.TheVariants.{Memory}
use Rattle.events.specs.declared.event.Event.{Event}
use Rattle.totals.specs.LookBack.{Game}
use Rattle.totals.specs.Shares.{president_of}
use Rattle.map_tables.specs.declared.rules.RunRule.{RunRule}
use Rattle.operating.specs.Calls.{Call, Course, Then, TimesThen, Unasked}
use Rattle.operating.specs.CompanyOrders.{is_held}
use Rattle.operating.specs.RunBest.{best_judgement}
use Rattle.operating.specs.Turn.{begun}
use Rattle.operating.specs.TurnState.{TurnState}
use Rattle.operating.specs.TurnCalls.{AskedCalls, Asks, BegunCalls, BestCalls, CompanyOrdersCall}
use Rattle.operating.specs.TurnCalls.{EndCalls, IsCredited, LineCalls}
use Rattle.operating.specs.TurnCalls.{LinesCall, OrderCalls, ReadingCalls, TurnCalls, asked}
use Rattle.forced_purchase.specs.declared.operator.Operator.{Operator}
use Rattle.order_grammar.specs.declared.fault.Fault.{Fault}
use Rattle.order_grammar.specs.declared.order.Order.{Order}
use Rattle.sheets.specs.CompanyOrders.{company_orders_for}
use Rattle.sheets.specs.Part.{Numbered}
use Rattle.tables.specs.declared.roster.Company.{Company}
use Rattle.tables.specs.declared.round.Round.{Round}
use Rattle.tables.specs.declared.seat.Seat.{Seat}

module _ (P : Call → Type 0) where
  -- it holds of each call of a course that leads on
  abbrev pub HoldsOfEach : {A B F : Type 0} → Course A B F → Type 0
  HoldsOfEach {A = A} {B = B} course = (from : A) (to : B) (calls : List Call) → course from (Ok to) calls
      → AllByRecursion P calls

  -- of calls, and others after them
  pub of_both : (calls others : List Call) → AllByRecursion P calls → AllByRecursion P others
      → AllByRecursion P (calls ++ others)
  of_both [] others these those = those
  of_both (call ∷ calls) others these those = (these.0, of_both calls others these.1 those)

  pub of_none : (calls : List Call) → calls ≡ [] → AllByRecursion P calls
  of_none calls none = subst (AllByRecursion P) (sym none) tt

  -- of a course that makes no call
  pub of_unasked : {A B F : Type 0} (memory : F) (leads : A → B → Type 0)
      → HoldsOfEach {A = A} {B = B} {F = F} (Unasked memory leads)
  of_unasked memory leads from to calls course = of_none calls course.1

  -- of one course after another
  pub of_then : {A B C F : Type 0} (first : Course A B F) (second : Course B C F) → HoldsOfEach
      first
      → HoldsOfEach second → HoldsOfEach (Then first second)
  of_then first second one other from to calls course =
      elim course [
        | inl never ↦ absurd never
        | inr joins ↦
            subst (AllByRecursion P) (sym joins.all)
            (of_both joins.earlier joins.later (one from joins.between joins.earlier joins.leads)
            (other joins.between to joins.later joins.goes_on))
      ]

  -- of a course this many times, and another
  pub of_times : {A B F : Type 0} (course : Course A A F) (last : Course A B F) → HoldsOfEach course
      → HoldsOfEach last → (times : ℕ) → HoldsOfEach (TimesThen times course last)
  of_times course last one end zero = end
  of_times course last one end (suc times) =
      of_then course (TimesThen times course last) one (of_times course last one end times)

module _ (P : Call → Type 0) (round : Round)
    (each : (company : Company) (events : List Event) (revenue : ℕ)
    → P (asked company round events (Ok (pos revenue)))) where
  -- of a RUN BEST, by the rule that refuses it, if one does
  of_asks : (company : Company) → HoldsOfEach P (Asks company round)
  of_asks company events revenue calls is =
      let all : AllByRecursion P (asked company round events (Ok (pos revenue)) ∷ []) =
      (each company events revenue, tt) in
      subst (AllByRecursion P) (sym is.1) all

  of_best : (by : Operator) (line : Numbered) (rule : Option RunRule) → HoldsOfEach P (BestCalls by
      round line rule)
  of_best by line (Some rule) turn to calls course = of_none P calls course.1
  of_best by line None turn to calls course =
      of_then P (Asks by.company round) (Unasked Memory (IsCredited by turn line))
      (of_asks by.company)
      (of_unasked P Memory (IsCredited by turn line)) turn.game.events to calls course

  -- of an order, whose condition is checked
  of_order : (by : Operator) (line : Numbered) (order : Order) → HoldsOfEach P (OrderCalls by round
      line order)
  of_order by line order turn to calls course =
      elim course [
        | inl best ↦ of_best by line (best_judgement turn by.company) turn to calls best.1
        | inr other ↦ of_none P calls other.1.1
      ]

  of_asked : (by : Operator) (line : Numbered) (its : Order) (held : Bool)
      → HoldsOfEach P (AskedCalls by round line its held)
  of_asked by line its true turn to calls course = of_none P calls course.1
  of_asked by line its false turn to calls course = of_order by line its turn to calls course

  -- of lines
  of_line : (by : Operator) (line : Numbered) (reading : Result Order Fault)
      → HoldsOfEach P (ReadingCalls by round line reading)
  of_line by line (Ok its) turn to calls course =
      of_asked by line its (is_held turn.game.events line.condition its) turn to calls course
  of_line by line (Err fault) turn to calls course = of_none P calls course.1

  of_lines : (by : Operator) (lines : List Numbered) → HoldsOfEach P (LinesCall by round lines)
  of_lines by [] turn to calls course = of_none P calls course.1
  of_lines by (line ∷ lines) turn to calls course =
      of_then P (LineCalls by round line) (LinesCall by round lines) (of_line by line line.reading)
      (of_lines by lines) turn to calls course

  -- of a company's orders
  of_orders : (file : List ℕ) (company : Company) (president : Option Seat)
      → HoldsOfEach P (CompanyOrdersCall file round company president)
  of_orders file company None turn to calls course = of_none P calls course.1
  of_orders file company (Some seat) turn to calls course =
      of_lines (record { company = company; president = seat }) (company_orders_for file round
      seat.0 company) turn to
      calls course

  -- of a turn
  pub of_turn : (file : List ℕ) (company : Company) → HoldsOfEach P (TurnCalls file round company)
  of_turn file company old to calls course =
      let president : Option Seat = president_of old.events company in
      of_then P (Unasked Memory (λ (game : Game) (turn : TurnState). turn ≡ begun game company))
      (BegunCalls file round company president)
      (of_unasked P Memory (λ (game : Game) (turn : TurnState). turn ≡ begun game company))
      (of_then P (CompanyOrdersCall file round company president) (EndCalls file round company
      president)
      (of_orders file company president) (λ last new calls end. of_none P calls end.1)) old to calls
      course
