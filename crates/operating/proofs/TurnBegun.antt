-- A company's turn that has begun, as its own record says it and as the game does.
use Rattle.std.proofs.Common.{◌≡◌, ℕ, List, Option, Some, Result, subst, ap, ◌∙◌}
use Rattle.forced_purchase.specs.Raise.{raises_in}
use Rattle.forced_purchase.specs.declared.operator.Operator.{Operator}
use Rattle.legal_runs.specs.declared.runner.RunnerFault.{RunnerFault}
use Rattle.operating.proofs.HeldRaises.{ends_alone}
use Rattle.operating.proofs.TurnCalled.{of_begun}
use Rattle.operating.specs.Calls.{Earns, Makes}
use Rattle.operating.specs.CompanyTurn.{state}
use Rattle.operating.specs.HomeToken.{with_home}
use Rattle.operating.specs.Pay.{withheld_if_unpaid}
use Rattle.operating.specs.Progress.{at_start}
use Rattle.operating.specs.Turn.{CompanyOrdersEnd, CompanyOrdersLead, IsCompanyTurn, OrdersLead}
use Rattle.operating.specs.TurnCalls.{OrdersCall, TurnCalls}
use Rattle.operating.specs.TurnEnd.{EndLeads}
use Rattle.operating.specs.TurnState.{TurnState, turn_state}
use Rattle.operating.specs.declared.company_turn.CompanyTurn.{CompanyTurn}
use Rattle.operating.specs.declared.progress.Progress.{Progress}
use Rattle.sheets.specs.CompanyOrders.{company_orders_for}
use Rattle.sheets.specs.Part.{Numbered}
use Rattle.tables.specs.declared.roster.Company.{Company}
use Rattle.tables.specs.declared.round.Round.{Round}
use Rattle.tables.specs.declared.seat.Seat.{Seat}
use Rattle.totals.specs.LookBack.{Game}
use Rattle.totals.specs.Shares.{president_of}

-- a turn has begun for a company over which this seat presides, with these lines
pub record HasBegun (file : List ℕ) (round : Round) (company : Company) (seat : Seat) (first : Game)
    (turn : CompanyTurn) (lines : List Numbered) : Type 0 where
  pub is_by : turn.by ≡ record { company = company; president = seat }
  pub is_round : turn.round ≡ round
  pub is_game : turn.history ≡ first
  pub is_start : turn.progress ≡ at_start
  pub are_lines : lines ≡ company_orders_for file round seat.0 company

module _
    (file : List ℕ) (round : Round) (company : Company) (seat : Seat) (first : Game) (turn : CompanyTurn)
    (lines : List Numbered)
    (begun : HasBegun file round company seat first turn lines)
  where
    -- it is where the game is
    is_at_start : state turn ≡ turn_state first at_start
    is_at_start =
        ap (λ (game : Game). turn_state game turn.progress) begun.is_game
        ∙ ap (λ (progress : Progress). turn_state first progress) begun.is_start

    -- what its orders lead to is what those of the block do
    led : (new : Game) → OrdersLead turn.by lines (state turn) new
        → OrdersLead (record { company = company; president = seat }) (company_orders_for file round seat.0 company)
        (turn_state first at_start) new
    led new leads =
        subst (λ (l : List Numbered). OrdersLead (record { company = company; president = seat }) l
        (turn_state first at_start) new) begun.are_lines
        (subst (λ (t : TurnState). OrdersLead (record { company = company; president = seat }) lines t new) is_at_start
        (subst (λ (by : Operator). OrdersLead by lines (state turn) new) begun.is_by leads))

    -- so they make the turn
    pub played : (old new : Game) → Some seat ≡ president_of old.events company → first ≡ with_home old company
        → OrdersLead turn.by lines (state turn) new → IsCompanyTurn file round company old new
    played old new presides is_first leads =
        let all = led new leads in
        record {
          last = all.0;
          orders = subst (λ (game : Game). CompanyOrdersLead file round company (turn_state game at_start)
              (president_of old.events company) all.0) is_first
              (subst (λ (president : Option Seat). CompanyOrdersLead file round company (turn_state first at_start)
              president all.0) presides all.1);
          after = subst (λ (president : Option Seat). CompanyOrdersEnd file round company
              (withheld_if_unpaid company all.0).game president new) presides all.2;
        }

    -- and their calls are those of the turn
    pub called :
        {Runner : Type 0} (earns : Earns Runner) (old : Game) (outcome : Result Game RunnerFault)
        (before after : Runner) →
        Some seat ≡ president_of old.events company → first ≡ with_home old company →
        Makes earns before (OrdersCall turn.by turn.round lines (state turn) outcome) after →
        Makes earns before (TurnCalls file round company old outcome) after
    called earns old outcome before after presides is_first made =
        of_begun earns file round company old first (Some seat) outcome before after presides is_first
        (subst (λ (l : List Numbered). Makes earns before
        (OrdersCall (record { company = company; president = seat }) round l (turn_state first at_start) outcome)
        after) begun.are_lines
        (subst (λ (t : TurnState). Makes earns before (OrdersCall (record { company = company; president = seat }) round
        lines t outcome) after) is_at_start
        (subst (λ (r : Round). Makes earns before (OrdersCall (record { company = company; president = seat }) r
        lines (state turn) outcome) after) begun.is_round
        (subst (λ (by : Operator). Makes earns before (OrdersCall by turn.round lines (state turn) outcome) after)
        begun.is_by made))))

-- what ends a turn, with the RAISE lines of its orders, is what ends it once the company has paid
-- or withheld
pub ended :
    (by : Operator) (ruled paid : CompanyTurn) (raises lines : List Numbered) (new : Game) → ruled.by ≡ by
    → paid.by ≡ ruled.by → raises ≡ raises_in lines → state paid ≡ withheld_if_unpaid ruled.by.company (state ruled)
    → EndLeads paid.by raises paid.history new
    → EndLeads by lines (withheld_if_unpaid by.company (state ruled)).game new
ended by ruled paid raises lines new same stays are is leads =
    subst (λ (o : Operator). EndLeads by lines (withheld_if_unpaid o.company (state ruled)).game new) same
    (subst (λ (game : Game). EndLeads by lines game new) (ap (λ (turn : TurnState). turn.game) is)
    (ends_alone by lines paid.history new
    (subst (λ (l : List Numbered). EndLeads by l paid.history new) are
    (subst (λ (o : Operator). EndLeads o raises paid.history new) (stays ∙ same) leads))))
