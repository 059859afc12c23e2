-- The calls that a company's turn makes of a runner. There is one for each RUN BEST that is obeyed,
-- in order, for the position that lies then and the trains that the company has then. A line that
-- is refused, also by its condition, or orders something else, makes none. Once a call fails the
-- turn is broken off, and so it is if allocation fails.
use Rattle.std.specs.Prelude.{◌≡◌, ◌≢◌, ◌⊎◌, ℕ, ℤ, pos, Bool, true, false, List, [], ◌∷◌, Option, Some, None, Result}
use Rattle.std.specs.Prelude.{Ok, Err}
use Rattle.legal_runs.specs.Set.{IsGreatest}
use Rattle.legal_runs.specs.declared.runner.RunnerFault.{RunnerFault}
use Rattle.legal_runs.specs.declared.runner.RunnerFault.TheVariants.{Memory}
use Rattle.events.specs.declared.event.Event.{Event}
use Rattle.events.specs.declared.ruling.Ruling.TheVariants.{Faulty}
use Rattle.totals.specs.LookBack.{Game}
use Rattle.totals.specs.Shares.{president_of}
use Rattle.map_tables.specs.declared.rules.RunRule.{RunRule}
use Rattle.operating.specs.Calls.{Call, Course, IsPrefix, Then, Unasked}
use Rattle.operating.specs.CompanyOrders.{AskedLeads, OrderLeads, is_held}
use Rattle.operating.specs.MapState.{position_now}
use Rattle.operating.specs.Pay.{withheld_if_unpaid}
use Rattle.operating.specs.RunBest.{BestRuled, best_earned, best_judgement, trains_now}
use Rattle.operating.specs.Turn.{CompanyOrdersEnd, IsCompanyTurn, begun}
use Rattle.operating.specs.TurnEnd.{EndLeads}
use Rattle.operating.specs.TurnState.{TurnState, line_recorded}
use Rattle.forced_purchase.specs.declared.operator.Operator.{Operator}
use Rattle.order_grammar.specs.declared.fault.Fault.{Fault}
use Rattle.order_grammar.specs.declared.order.Order.{Order}
use Rattle.order_grammar.specs.declared.order.Order.TheVariants as order
use Rattle.order_grammar.specs.declared.play.PlayOrder.TheVariants as play
use Rattle.sheets.specs.CompanyOrders.{company_orders_for}
use Rattle.sheets.specs.Part.{Numbered}
use Rattle.tables.specs.declared.roster.Company.{Company}
use Rattle.tables.specs.declared.round.Round.{Round}
use Rattle.tables.specs.declared.seat.Seat.{Seat}

-- the call for the best runs of a company after these events, and its result
abbrev pub asked : Company → Round → List Event → Result ℤ RunnerFault → Call
asked company round events answer = record {
  position = position_now events;
  round = round;
  company = company;
  trains = trains_now events company;
  answer = answer;
}

-- the runner is called for the best runs of a company, and returns the greatest revenue or why it
-- does not; or allocation fails before
abbrev pub Asks : Company → Round → Course (List Event) ℕ RunnerFault
Asks company round events (Ok revenue) calls =
    IsGreatest (position_now events) company (trains_now events company) revenue
    × (calls ≡ asked company round events (Ok (pos revenue)) ∷ [])
Asks company round events (Err fault) calls =
    (calls ≡ asked company round events (Err fault) ∷ []) ⊎ ((fault ≡ Memory) × (calls ≡ []))

-- a revenue is credited to a company that is ordered to run its best, in this line
abbrev pub IsCredited : Operator → TurnState → Numbered → ℕ → TurnState → Type 0
IsCredited by turn line revenue new = new ≡ best_earned by turn line revenue

-- the course of a RUN BEST in this line, with the rule that refuses it, if one does
abbrev pub BestCalls : Operator → Round → Numbered → Option RunRule → Course TurnState TurnState RunnerFault
BestCalls by round line (Some rule) turn = Unasked Memory (λ old new. BestRuled by old line (Some rule) new) turn
BestCalls by round line None turn =
    Then (Asks by.company round) (Unasked Memory (IsCredited by turn line)) turn.game.events

-- the course of an order in this line
abbrev pub OrderCalls : Operator → Round → Numbered → Order → Course TurnState TurnState RunnerFault
OrderCalls by round line its turn outcome calls =
    ((its ≡ order.Play play.RunBest) × BestCalls by round line (best_judgement turn by.company) turn outcome calls)
    ⊎ ((its ≢ order.Play play.RunBest) × Unasked Memory (λ old new. OrderLeads by old line its new) turn outcome calls)

-- the course of an order in this line, given whether its condition is not met: then the runner is
-- not called
abbrev pub AskedCalls : Operator → Round → Numbered → Order → Bool → Course TurnState TurnState RunnerFault
AskedCalls by round line its true = Unasked Memory (λ old new. AskedLeads by old line its true new)
AskedCalls by round line its false = OrderCalls by round line its

-- the course of this line with this reading
abbrev pub ReadingCalls : Operator → Round → Numbered → Result Order Fault → Course TurnState TurnState RunnerFault
ReadingCalls by round line (Ok its) turn = AskedCalls by round line its (is_held turn.game.events line.condition its)
    turn
ReadingCalls by round line (Err fault) turn = Unasked Memory (λ old new. new ≡ line_recorded by old line (Faulty fault))
    turn

-- the course of a line
abbrev pub LineCalls : Operator → Round → Numbered → Course TurnState TurnState RunnerFault
LineCalls by round line = ReadingCalls by round line line.reading

-- the course of lines, one after another
abbrev pub LinesCall : Operator → Round → List Numbered → Course TurnState TurnState RunnerFault
LinesCall by round [] = Unasked Memory (λ turn new. new ≡ turn)
LinesCall by round (line ∷ lines) = Then (LineCalls by round line) (LinesCall by round lines)

-- the course of the orders for a company in the sheet of its president; without a president there
-- is none
abbrev pub CompanyOrdersCall : List ℕ → Round → Company → Option Seat → Course TurnState TurnState RunnerFault
CompanyOrdersCall file round company None = Unasked Memory (λ turn new. new ≡ turn)
CompanyOrdersCall file round company (Some seat) =
    LinesCall (record { company = company; president = seat }) round (company_orders_for file round seat.0 company)

-- the course of what follows the orders in the turn of a company
abbrev pub EndCalls : List ℕ → Round → Company → Option Seat → Course TurnState Game RunnerFault
EndCalls file round company president =
    Unasked Memory (λ last new. CompanyOrdersEnd file round company (withheld_if_unpaid company last).game president
    new)

-- the course of a turn once its home token lies
abbrev pub BegunCalls : List ℕ → Round → Company → Option Seat → Course TurnState Game RunnerFault
BegunCalls file round company president =
    Then (CompanyOrdersCall file round company president) (EndCalls file round company president)

-- the course of the turn of a company in a round with the sheets of the file
abbrev pub TurnCalls : List ℕ → Round → Company → Course Game Game RunnerFault
TurnCalls file round company old = Then (Unasked Memory (λ game turn. turn ≡ begun game company))
    (BegunCalls file round company (president_of old.events company)) old

-- the course of the orders of a company, these lines of its sheet
abbrev pub OrdersCall : Operator → Round → List Numbered → Course TurnState Game RunnerFault
OrdersCall by round lines =
    Then (LinesCall by round lines)
    (Unasked Memory (λ last new. EndLeads by lines (withheld_if_unpaid by.company last).game new))

-- where a turn has led that has come so far, if it was not broken off
abbrev pub led_to : {A : Type 0} → A → Result (Unit {0}) RunnerFault → Result A RunnerFault
led_to to (Ok done) = Ok to
led_to to (Err fault) = Err fault

-- the calls of a turn that was broken off are a prefix of all its calls: one that failed is for
-- this company in this round
abbrev pub IsTurnPrefix : Round → Company → RunnerFault → List Call → List Call → Type 0
IsTurnPrefix round company =
    IsPrefix Memory (λ fault why call. (fault ≡ why) × (call.round ≡ round) × (call.company ≡ company))

-- a turn makes one list of calls, and leads to one game
abbrev pub OneListOfTurnCalls : Type 0
OneListOfTurnCalls =
    (file : List ℕ) (round : Round) (company : Company) (old a b : Game) (some others : List Call) →
    TurnCalls file round company old (Ok a) some → TurnCalls file round company old (Ok b) others
    → (a ≡ b) × (some ≡ others)

-- each turn makes some
abbrev pub SomeTurnCalls : Type 0
SomeTurnCalls =
    (file : List ℕ) (round : Round) (company : Company) (old new : Game) →
    IsCompanyTurn file round company old new → (calls : List Call) × TurnCalls file round company old (Ok new) calls

-- if it is broken off, it has made a prefix of them
abbrev pub RefusedTurnCallsAreAPrefix : Type 0
RefusedTurnCallsAreAPrefix =
    (file : List ℕ) (round : Round) (company : Company) (old new : Game) (fault : RunnerFault)
    (refused whole : List Call) →
    TurnCalls file round company old (Err fault) refused → TurnCalls file round company old (Ok new) whole →
    IsTurnPrefix round company fault refused whole
