-- A company's turn makes one list of calls, and a prefix of them where it is broken off.
use Rattle.std.proofs.Common.{◌≡◌, ℕ, Bool, true, false, List, [], ◌∷◌, Option, Some, None, Result, Ok, Err, pos, refl}
use Rattle.std.proofs.Common.{sym, ap, ◌∙◌, inl, inr}
use Rattle.legal_runs.proofs.Greatest.{one_greatest}
use Rattle.legal_runs.specs.declared.runner.RunnerFault.{RunnerFault}
use Rattle.legal_runs.specs.declared.runner.RunnerFault.TheVariants.{Memory}
use Rattle.events.specs.declared.ruling.Ruling.TheVariants.{Faulty}
use Rattle.totals.specs.Shares.{president_of}
use Rattle.map_tables.specs.declared.rules.RunRule.{RunRule}
use Rattle.operating.proofs.OneCourse.{Agree, none_first, then_agree, unasked_agrees}
use Rattle.operating.proofs.Outcome.{order_once, orders_end_once}
use Rattle.operating.specs.Calls.{Call, Course, Unasked}
use Rattle.operating.specs.CompanyOrders.{AskedLeads, OrderLeads, is_held}
use Rattle.operating.specs.MapState.{position_now}
use Rattle.operating.specs.Pay.{withheld_if_unpaid}
use Rattle.operating.specs.RunBest.{BestRuled, best_judgement, trains_now}
use Rattle.operating.specs.Turn.{CompanyOrdersEnd, begun}
use Rattle.operating.specs.TurnCalls.{AskedCalls, Asks, BegunCalls, BestCalls, CompanyOrdersCall, EndCalls, IsCredited}
use Rattle.operating.specs.TurnCalls.{LineCalls, LinesCall, OneListOfTurnCalls, OrderCalls, ReadingCalls}
use Rattle.operating.specs.TurnCalls.{RefusedTurnCallsAreAPrefix, TurnCalls, asked}
use Rattle.operating.specs.TurnState.{TurnState, line_recorded}
use Rattle.forced_purchase.specs.declared.operator.Operator.{Operator}
use Rattle.order_grammar.specs.declared.fault.Fault.{Fault}
use Rattle.order_grammar.specs.declared.order.Order.{Order}
use Rattle.sheets.specs.CompanyOrders.{company_orders_for}
use Rattle.sheets.specs.Part.{Numbered}
use Rattle.tables.specs.declared.roster.Company.{Company}
use Rattle.tables.specs.declared.round.Round.{Round}
use Rattle.tables.specs.declared.seat.Seat.{Seat}
use Rattle.board_state.specs.MapState.{MapStatesAreLawful}

-- a fault in the turn of a company says why a call for it failed
abbrev TellsOf : Round → Company → RunnerFault → RunnerFault → Call → Type 0
TellsOf round company fault why call = (fault ≡ why) × (call.round ≡ round) × (call.company ≡ company)

-- from each place such a course leads to one end by one list of calls, and by a prefix of them if
-- it is broken off
abbrev IsOne : {A B : Type 0} → Round → Company → Course A B RunnerFault → Type 0
IsOne round company course = Agree Memory (TellsOf round company) course course

-- that a runner is called for the best runs, of which it returns the greatest revenue
asks_once : (round : Round) (company : Company) → IsOne round company (Asks company round)
asks_once round company =
    record {
      once = λ events a b some others first second.
          let same : a ≡ b = one_greatest (position_now events) company (trains_now events company) a b first.0
          second.0 in (
            same,
            first.1 ∙ ap (λ (revenue : ℕ). asked company round events (Ok (pos revenue)) ∷ []) same
                ∙ sym second.1,
          );
      prefix = λ events fault to some all broken led.
          elim broken [
            | inl cut ↦ inr (
              fault,
              record {
                earlier = [];
                next = asked company round events (Ok (pos to));
                later = [];
                are = led.1;
                cut =
                    cut;
              },
              (refl, refl, refl),
            )
            | inr before ↦ none_first Memory (TellsOf round company) fault some all before.0 before.1
          ];
    }

module _ (all : MapStatesAreLawful) (by : Operator) (round : Round) where
  -- an order to run the best
  best_once : (line : Numbered) (turn : TurnState) (rule : Option RunRule) →
      IsOne round by.company (λ (from : TurnState). BestCalls by round line rule turn)
  best_once line turn (Some rule) =
      let ruled = unasked_agrees Memory (TellsOf round by.company) (λ old new. BestRuled by old line (Some rule) new)
      (λ from a b first second. first ∙ sym second) in
      record {
        once = λ from. ruled.once turn;
        prefix = λ from. ruled.prefix turn;
      }
  best_once line turn None =
      let credited = unasked_agrees Memory (TellsOf round by.company) (IsCredited by turn line)
      (λ from a b first second. first ∙ sym second) in
      let both = then_agree Memory (TellsOf round by.company) (Asks by.company round) (Asks by.company round)
      (Unasked Memory (IsCredited by turn line)) (Unasked Memory (IsCredited by turn line))
      (asks_once round by.company) credited in
      record {
        once = λ from. both.once turn.game.events;
        prefix = λ from. both.prefix turn.game.events;
      }

  -- an order
  order_called_once : (line : Numbered) (its : Order) → IsOne round by.company (OrderCalls by round line its)
  order_called_once line its =
      let led = unasked_agrees Memory (TellsOf round by.company) (λ old new. OrderLeads by old line its new)
      (λ from a b first second. order_once all by from line its a b first second) in
      record {
        once = λ from a b some others first second.
            let best = best_once line from (best_judgement from by.company) in
            elim first [
              | inl one ↦ elim second [
                | inl other ↦ best.once from a b some others one.1 other.1
                | inr other ↦ absurd (other.0 one.0)
              ]
              | inr one ↦ elim second [
                | inl other ↦ absurd (one.0 other.0)
                | inr other ↦ led.once from a b some others one.1 other.1
              ]
            ];
        prefix = λ from fault to some whole first second.
            let best = best_once line from (best_judgement from by.company) in
            elim first [
              | inl one ↦ elim second [
                | inl other ↦ best.prefix from fault to some whole one.1 other.1
                | inr other ↦ absurd (other.0 one.0)
              ]
              | inr one ↦ elim second [
                | inl other ↦ absurd (one.0 other.0)
                | inr other ↦ led.prefix from fault to some whole one.1 other.1
              ]
            ];
      }

  -- an order whose condition is checked
  asked_once : (line : Numbered) (its : Order) (held : Bool)
      → IsOne round by.company (AskedCalls by round line its held)
  asked_once line its true =
      unasked_agrees Memory (TellsOf round by.company) (λ turn new. AskedLeads by turn line its true new)
      (λ from a b first second. first ∙ sym second)
  asked_once line its false = order_called_once line its

  -- a line
  reading_called_once : (line : Numbered) (reading : Result Order Fault)
      → IsOne round by.company (ReadingCalls by round line reading)
  reading_called_once line (Ok its) =
      record {
        once = λ from.
            let one = asked_once line its (is_held from.game.events line.condition its) in one.once from;
        prefix = λ from.
            let one = asked_once line its (is_held from.game.events line.condition its) in one.prefix from;
      }
  reading_called_once line (Err fault) =
      unasked_agrees Memory (TellsOf round by.company) (λ turn new. new ≡ line_recorded by turn line (Faulty fault))
      (λ from a b first second. first ∙ sym second)

  -- lines
  lines_called_once : (lines : List Numbered) → IsOne round by.company (LinesCall by round lines)
  lines_called_once [] = unasked_agrees Memory (TellsOf round by.company) (λ turn new. new ≡ turn)
      (λ from a b first second. first ∙ sym second)
  lines_called_once (line ∷ lines) =
      then_agree Memory (TellsOf round by.company) (LineCalls by round line) (LineCalls by round line)
      (LinesCall by round lines) (LinesCall by round lines) (reading_called_once line line.reading)
      (lines_called_once lines)

module _ (all : MapStatesAreLawful) (file : List ℕ) (round : Round) (company : Company) where
  -- a company's orders
  orders_called_once : (president : Option Seat) → IsOne round company (CompanyOrdersCall file round company president)
  orders_called_once None = unasked_agrees Memory (TellsOf round company) (λ turn new. new ≡ turn)
      (λ from a b first second. first ∙ sym second)
  orders_called_once (Some seat) =
      lines_called_once all (record { company = company; president = seat }) round
      (company_orders_for file round seat.0 company)

  -- a turn that has begun
  begun_called_once : (president : Option Seat) → IsOne round company (BegunCalls file round company president)
  begun_called_once president =
      then_agree Memory (TellsOf round company) (CompanyOrdersCall file round company president)
      (CompanyOrdersCall file round company president) (EndCalls file round company president)
      (EndCalls file round company president)
      (orders_called_once president)
      (unasked_agrees Memory (TellsOf round company)
      (λ last new. CompanyOrdersEnd file round company (withheld_if_unpaid company last).game president new)
      (λ from a b first second. orders_end_once all file round company (withheld_if_unpaid company from).game president
      a b first second))

  -- and a whole turn
  turn_called_once : IsOne round company (TurnCalls file round company)
  turn_called_once =
      let start = unasked_agrees Memory (TellsOf round company) (λ game turn. turn ≡ begun game company)
      (λ from a b first second. first ∙ sym second) in
      record {
        once = λ old.
            let president : Option Seat = president_of old.events company in
            let whole = then_agree Memory (TellsOf round company)
            (Unasked Memory (λ game turn. turn ≡ begun game company))
            (Unasked Memory (λ game turn. turn ≡ begun game company)) (BegunCalls file round company president)
            (BegunCalls file round company president) start (begun_called_once president) in
            whole.once old;
        prefix = λ old.
            let president : Option Seat = president_of old.events company in
            let whole = then_agree Memory (TellsOf round company)
            (Unasked Memory (λ game turn. turn ≡ begun game company))
            (Unasked Memory (λ game turn. turn ≡ begun game company)) (BegunCalls file round company president)
            (BegunCalls file round company president) start (begun_called_once president) in
            whole.prefix old;
      }

-- so a turn makes one list of calls
pub one_list : MapStatesAreLawful → OneListOfTurnCalls
one_list all file round company old a b some others first second =
    let one = turn_called_once all file round company in one.once old a b some others first second

-- and a prefix of them where it is broken off
pub a_prefix : MapStatesAreLawful → RefusedTurnCallsAreAPrefix
a_prefix all file round company old new fault refused whole broken led =
    let one = turn_called_once all file round company in one.prefix old fault new refused whole broken led
