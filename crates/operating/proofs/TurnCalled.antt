-- The calls of a company's turn, line by line and part by part.
use Rattle.std.proofs.Common.{◌≡◌, ℕ, Bool, true, false, List, [], ◌∷◌, ◌++◌, Option, Some, None, Result, Ok, Err, pos}
use Rattle.std.proofs.Common.{refl, sym, subst, inl, inr}
use Rattle.std.proofs.lemmas.List.{append-nil}
use Rattle.legal_runs.specs.declared.runner.RunnerFault.{RunnerFault}
use Rattle.legal_runs.specs.declared.runner.RunnerFault.TheVariants.{Memory}
use Rattle.totals.specs.LookBack.{Game}
use Rattle.totals.specs.Shares.{president_of}
use Rattle.map_tables.specs.declared.rules.RunRule.{RunRule}
use Rattle.operating.proofs.Calls.{broken_off, joined, silent}
use Rattle.operating.specs.Calls.{Call, Earns, Makes, Unasked}
use Rattle.operating.specs.CompanyOrders.{AskedLeads, LinesLead, OrderLeads, ReadingLeads, is_held}
use Rattle.operating.specs.HomeToken.{with_home}
use Rattle.operating.specs.Pay.{withheld_if_unpaid}
use Rattle.operating.specs.Progress.{at_start}
use Rattle.operating.specs.RunBest.{BestRuled, best_judgement}
use Rattle.operating.specs.Turn.{CompanyOrdersLead, IsCompanyTurn, begun}
use Rattle.operating.specs.TurnCalls.{AskedCalls, BegunCalls, BestCalls, CompanyOrdersCall, LineCalls, LinesCall}
use Rattle.operating.specs.TurnCalls.{OrderCalls, OrdersCall, ReadingCalls, SomeTurnCalls, TurnCalls, asked}
use Rattle.operating.specs.TurnEnd.{EndLeads}
use Rattle.operating.specs.TurnState.{TurnState, turn_state}
use Rattle.forced_purchase.specs.declared.operator.Operator.{Operator}
use Rattle.order_grammar.specs.declared.fault.Fault.{Fault}
use Rattle.order_grammar.specs.declared.order.Order.{Order}
use Rattle.order_grammar.specs.declared.order.Order.TheVariants as order
use Rattle.order_grammar.specs.declared.play.PlayOrder.TheVariants as play
use Rattle.sheets.specs.CompanyOrders.{company_orders_for}
use Rattle.sheets.specs.Part.{Numbered}
use Rattle.tables.specs.declared.roster.Company.{Company}
use Rattle.tables.specs.declared.round.Round.{Round}
use Rattle.tables.specs.declared.seat.Seat.{Seat}

module _ {Runner : Type 0} (earns : Earns Runner) where
  -- where no line is left, no call is made
  pub no_line_calls :
      (by : Operator) (round : Round) (lines : List Numbered) (turn : TurnState) (runner : Runner) → lines ≡ [] →
      Makes earns runner (LinesCall by round lines turn (Ok turn)) runner
  no_line_calls by round lines turn runner none =
      subst (λ (all : List Numbered). Makes earns runner (LinesCall by round all turn (Ok turn)) runner) (sym none)
      (silent earns Memory (λ (old new : TurnState). new ≡ old) turn turn runner runner refl refl)

  -- a line led on, and those after it
  pub line_calls_on :
      (by : Operator) (round : Round) (all : List Numbered) (line : Numbered) (lines : List Numbered)
      (turn next : TurnState)
      (outcome : Result TurnState RunnerFault) (before between after : Runner) →
      all ≡ line ∷ lines → Makes earns before (LineCalls by round line turn (Ok next)) between →
      Makes earns between (LinesCall by round lines next outcome) after
      → Makes earns before (LinesCall by round all turn outcome) after
  line_calls_on by round all line lines turn next outcome before between after are one others =
      subst (λ (these : List Numbered). Makes earns before (LinesCall by round these turn outcome) after) (sym are)
      (joined earns (LineCalls by round line) (LinesCall by round lines) turn next outcome before between after one
      others)

  -- a line was broken off
  pub line_calls_end :
      (by : Operator) (round : Round) (all : List Numbered) (line : Numbered) (lines : List Numbered) (turn : TurnState)
      (fault : RunnerFault)
      (before after : Runner) →
      all ≡ line ∷ lines → Makes earns before (LineCalls by round line turn (Err fault)) after →
      Makes earns before (LinesCall by round all turn (Err fault)) after
  line_calls_end by round all line lines turn fault before after are one =
      subst (λ (these : List Numbered). Makes earns before (LinesCall by round these turn (Err fault)) after) (sym are)
      (broken_off earns (LineCalls by round line) (LinesCall by round lines) turn fault before after one)

  -- once the home token lies, the calls of the orders and of the end are those of the turn
  pub of_begun :
      (file : List ℕ) (round : Round) (company : Company) (old placed : Game) (president : Option Seat)
      (outcome : Result Game RunnerFault) (before after : Runner) →
      president ≡ president_of old.events company → placed ≡ with_home old company →
      Makes earns before (BegunCalls file round company president (turn_state placed at_start) outcome) after →
      Makes earns before (TurnCalls file round company old outcome) after
  of_begun file round company old placed president outcome before after is_president is_placed rest =
      let is_begun : turn_state placed at_start ≡ begun old company = λ i. turn_state (is_placed i) at_start in
      joined earns (Unasked Memory (λ (game : Game) (turn : TurnState). turn ≡ begun game company))
      (BegunCalls file round company (president_of old.events company)) old (turn_state placed at_start) outcome
      before before after
      (silent earns Memory (λ (game : Game) (turn : TurnState). turn ≡ begun game company) old
      (turn_state placed at_start)
      before before is_begun refl)
      (subst (λ (seat : Option Seat). Makes earns before
      (BegunCalls file round company seat (turn_state placed at_start) outcome) after) is_president rest)

  -- the lines of a block, and the end, make the calls of its orders
  pub orders_called :
      (by : Operator) (round : Round) (taken lines : List Numbered) (old ruled : TurnState)
      (outcome : Result Game RunnerFault) (before after : Runner) → taken ≡ lines →
      Makes earns before (LinesCall by round taken old (Ok ruled)) after →
      Unasked Memory (λ (last : TurnState) (new : Game). EndLeads by lines
      (withheld_if_unpaid by.company last).game new) ruled outcome [] →
      Makes earns before (OrdersCall by round lines old outcome) after
  orders_called by round taken lines old ruled outcome before after are called ends =
      joined earns (LinesCall by round lines)
      (Unasked Memory (λ (last : TurnState) (new : Game). EndLeads by lines
      (withheld_if_unpaid by.company last).game new)) old ruled outcome before after after
      (subst (λ (l : List Numbered). Makes earns before (LinesCall by round l old (Ok ruled)) after) are called)
      ([], ends, refl)

  -- so do the lines where they are broken off
  pub orders_broken_off :
      (by : Operator) (round : Round) (taken lines : List Numbered) (old : TurnState) (fault : RunnerFault)
      (before after : Runner) → taken ≡ lines →
      Makes earns before (LinesCall by round taken old (Err fault)) after →
      Makes earns before (OrdersCall by round lines old (Err fault)) after
  orders_broken_off by round taken lines old fault before after are called =
      broken_off earns (LinesCall by round lines)
      (Unasked Memory (λ (last : TurnState) (new : Game). EndLeads by lines
      (withheld_if_unpaid by.company last).game new)) old fault before after
      (subst (λ (l : List Numbered). Makes earns before (LinesCall by round l old (Err fault)) after) are called)

-- an order to run the best that makes these calls leads on as it is ruled
best_leads :
    (by : Operator) (round : Round) (line : Numbered) (rule : Option RunRule) (turn new : TurnState)
    (calls : List Call) →
    BestCalls by round line rule turn (Ok new) calls → BestRuled by turn line rule new
best_leads by round line (Some rule) turn new calls course = course.0
best_leads by round line None turn new calls course =
    elim course [
      | inl never ↦ absurd never
      | inr joins ↦ (joins.between, joins.leads.0, joins.goes_on.0)
    ]

-- so does an order
order_leads :
    (by : Operator) (round : Round) (line : Numbered) (its : Order) (turn new : TurnState) (calls : List Call) →
    OrderCalls by round line its turn (Ok new) calls → OrderLeads by turn line its new
order_leads by round line its turn new calls course =
    elim course [
      | inl best ↦
          subst (λ (o : Order). OrderLeads by turn line o new) (sym best.0)
          (best_leads by round line (best_judgement turn by.company) turn new calls best.1)
      | inr other ↦ other.1.0
    ]

-- so does one whose condition is checked
asked_leads :
    (by : Operator) (round : Round) (line : Numbered) (its : Order) (held : Bool) (turn new : TurnState)
    (calls : List Call) →
    AskedCalls by round line its held turn (Ok new) calls → AskedLeads by turn line its held new
asked_leads by round line its true turn new calls course = course.0
asked_leads by round line its false turn new calls course = order_leads by round line its turn new calls course

-- so does a line
reading_leads :
    (by : Operator) (round : Round) (line : Numbered) (reading : Result Order Fault) (turn new : TurnState)
    (calls : List Call) →
    ReadingCalls by round line reading turn (Ok new) calls → ReadingLeads by turn line reading new
reading_leads by round line (Ok its) turn new calls course =
    asked_leads by round line its (is_held turn.game.events line.condition its) turn new calls course
reading_leads by round line (Err fault) turn new calls course = course.0

-- so do lines
lines_lead :
    (by : Operator) (round : Round) (lines : List Numbered) (turn new : TurnState) (calls : List Call) →
    LinesCall by round lines turn (Ok new) calls → LinesLead by turn lines new
lines_lead by round [] turn new calls course = course.0
lines_lead by round (line ∷ lines) turn new calls course =
    elim course [
      | inl never ↦ absurd never
      | inr joins ↦ (
        joins.between,
        reading_leads by round line line.reading turn joins.between joins.earlier joins.leads,
        lines_lead by round lines joins.between new joins.later joins.goes_on,
      )
    ]

-- so do a company's orders
orders_lead :
    (file : List ℕ) (round : Round) (company : Company) (president : Option Seat) (turn new : TurnState)
    (calls : List Call) →
    CompanyOrdersCall file round company president turn (Ok new) calls → CompanyOrdersLead file round company turn
    president new
orders_lead file round company None turn new calls course = course.0
orders_lead file round company (Some seat) turn new calls course =
    lines_lead (record { company = company; president = seat }) round (company_orders_for file round seat.0 company)
    turn new calls course

-- and so does a turn
pub turn_leads :
    (file : List ℕ) (round : Round) (company : Company) (old new : Game) (calls : List Call) →
    TurnCalls file round company old (Ok new) calls → IsCompanyTurn file round company old new
turn_leads file round company old new calls course =
    elim course [
      | inl never ↦ absurd never
      | inr first ↦ elim first.goes_on [
        | inl never ↦ absurd never
        | inr rest ↦ record {
          last = rest.between;
          orders =
              subst (λ (turn : TurnState). CompanyOrdersLead file round company turn (president_of old.events company)
              rest.between) first.leads.0
              (orders_lead file round company (president_of old.events company) first.between rest.between
              rest.earlier rest.leads);
          after = rest.goes_on.0;
        }
      ]
    ]

-- an order to run the best that leads on as it is ruled makes calls
best_called :
    (by : Operator) (round : Round) (line : Numbered) (rule : Option RunRule) (turn new : TurnState) →
    BestRuled by turn line rule new → (calls : List Call) × BestCalls by round line rule turn (Ok new) calls
best_called by round line (Some rule) turn new leads = ([], (leads, refl))
best_called by round line None turn new leads = (
  asked by.company round turn.game.events (Ok (pos leads.0)) ∷ [],
  inr (record {
    between = leads.0;
    earlier = asked by.company round turn.game.events (Ok (pos leads.0)) ∷ [];
    later = [];
    leads = (leads.1, refl);
    goes_on = (leads.2, refl);
    all = refl;
  }),
)

-- so does an order
order_called :
    (by : Operator) (round : Round) (line : Numbered) (its : Order) (turn new : TurnState) →
    OrderLeads by turn line its new → (calls : List Call) × OrderCalls by round line its turn (Ok new) calls
order_called by round line (order.Play play.RunBest) turn new leads =
    let best = best_called by round line (best_judgement turn by.company) turn new leads in (best.0, inl (refl, best.1))
order_called by round line other turn new leads = ([], inr ((λ (best : other ≡ order.Play play.RunBest). cc), (leads, refl)))

-- so does one whose condition is checked
asked_called :
    (by : Operator) (round : Round) (line : Numbered) (its : Order) (held : Bool) (turn new : TurnState) →
    AskedLeads by turn line its held new → (calls : List Call) × AskedCalls by round line its held turn (Ok new) calls
asked_called by round line its true turn new leads = ([], (leads, refl))
asked_called by round line its false turn new leads = order_called by round line its turn new leads

-- so does a line
reading_called :
    (by : Operator) (round : Round) (line : Numbered) (reading : Result Order Fault) (turn new : TurnState) →
    ReadingLeads by turn line reading new → (calls : List Call) × ReadingCalls by round line reading turn (Ok new) calls
reading_called by round line (Ok its) turn new leads =
    asked_called by round line its (is_held turn.game.events line.condition its) turn new leads
reading_called by round line (Err fault) turn new leads = ([], (leads, refl))

-- so do lines
lines_called :
    (by : Operator) (round : Round) (lines : List Numbered) (turn new : TurnState) →
    LinesLead by turn lines new → (calls : List Call) × LinesCall by round lines turn (Ok new) calls
lines_called by round [] turn new leads = ([], (leads, refl))
lines_called by round (line ∷ lines) turn new leads =
    let first = reading_called by round line line.reading turn leads.0 leads.1 in
    let rest = lines_called by round lines leads.0 new leads.2 in (
      first.0 ++ rest.0,
      inr (record {
        between = leads.0;
        earlier = first.0;
        later = rest.0;
        leads = first.1;
        goes_on = rest.1;
        all =
            refl;
      }),
    )

-- so do a company's orders
company_orders_called :
    (file : List ℕ) (round : Round) (company : Company) (president : Option Seat) (turn new : TurnState) →
    CompanyOrdersLead file round company turn president new
    → (calls : List Call) × CompanyOrdersCall file round company president turn (Ok new) calls
company_orders_called file round company None turn new leads = ([], (leads, refl))
company_orders_called file round company (Some seat) turn new leads =
    lines_called (record { company = company; president = seat }) round (company_orders_for file round seat.0 company)
    turn new leads

-- and so does a turn
pub turn_called : SomeTurnCalls
turn_called file round company old new turn =
    let president : Option Seat = president_of old.events company in
    let orders = company_orders_called file round company president (begun old company) turn.last turn.orders in (
      orders.0,
      inr (record {
        between = begun old company;
        earlier = [];
        later = orders.0;
        leads = (refl, refl);
        goes_on = inr (record {
          between = turn.last;
          earlier = orders.0;
          later = [];
          leads = orders.1;
          goes_on =
              (turn.after, refl);
          all = sym (append-nil orders.0);
        });
        all = refl;
      }),
    )
