-- A company's turn has one outcome: the rules of the board give one outcome to a lay and to a
-- token, and all else follows.
use Rattle.std.proofs.Common.{◌≡◌, ℕ, Bool, true, false, ◌↔◌, IsTrue, List, [], ◌∷◌, ◌++◌, Option, Some, None, Result}
use Rattle.std.proofs.Common.{Ok, Err, inl, inr, refl, sym, ap, subst, ◌∙◌}
use Rattle.board.proofs.RuleTables.{earlier}
use Rattle.board_state.specs.MapState.{MapState, position_of, with_lay, MapStatesAreLawful}
use Rattle.board.specs.LayRules.{IsConnected, IsLayAnswer, cost_or, map_rules, lay_cost_of, lay_rules}
use Rattle.board.specs.LayRules.{lay_reach_rules}
use Rattle.board.specs.TokenRules.{IsReachedPlace, IsTokenAnswer, slot_rules, token_cost_of, token_reach_rules}
use Rattle.board.specs.TokenRules.{token_rules}
use Rattle.board.specs.declared.turn.Asker.{Asker}
use Rattle.legal_runs.proofs.Greatest.{a_greatest_exists, one_greatest}
use Rattle.legal_runs.proofs.RunDecided.{can_run_decided}
use Rattle.totals.specs.LookBack.{Game}
use Rattle.map_tables.specs.declared.rules.RunRule.{RunRule}
use Rattle.totals.specs.Shares.{president_of}
use Rattle.map_tables.specs.declared.lay.Lay.{Lay}
use Rattle.map_tables.specs.declared.place.Place.{Place}
use Rattle.operating.proofs.Decided.{IsTested, piece_tested, place_tested}
use Rattle.operating.specs.BoardAsker.{asker_of}
use Rattle.operating.specs.Laws.{CompanyTurnEnds, OneCompanyTurn}
use Rattle.operating.specs.MapState.{map_state_now, position_now}
use Rattle.operating.specs.RunBest.{BestRuled, best_earned, best_judgement, trains_now}
use Rattle.operating.specs.TurnEnd.{EndLeads, IsDue}
use Rattle.operating.specs.TurnState.{TurnState}
use Rattle.forced_purchase.specs.Forced.{after_forced}
use Rattle.forced_purchase.specs.Raise.{after_raises}
use Rattle.purchases.specs.Train.{has_trains}
use Rattle.operating.specs.CompanyOrders.{AskedLeads, LinesLead, OrderLeads, ReadingLeads, is_held}
use Rattle.operating.specs.Lay.{lay_answered}
use Rattle.operating.specs.Pay.{withheld_if_unpaid}
use Rattle.operating.specs.Token.{token_answered}
use Rattle.operating.specs.Turn.{CompanyOrdersEnd, CompanyOrdersLead, IsCompanyTurn, begun}
use Rattle.forced_purchase.specs.declared.operator.Operator.{Operator}
use Rattle.order_grammar.specs.declared.fault.Fault.{Fault}
use Rattle.order_grammar.specs.declared.order.Order.{Order}
use Rattle.order_grammar.specs.declared.order.Order.TheVariants as order
use Rattle.order_grammar.specs.declared.play.PlayOrder.TheVariants as play
use Rattle.reach.specs.Position.{Position}
use Rattle.reach.proofs.Decided.{Decided}
use Rattle.sheets.specs.CompanyOrders.{company_orders_for}
use Rattle.sheets.specs.Part.{Numbered}
use Rattle.tables.specs.Rules.{Rule, first_broken}
use Rattle.tables.specs.declared.rolling_stock.Kind.{Kind}
use Rattle.tables.specs.declared.roster.Company.{Company}
use Rattle.tables.specs.declared.round.Round.{Round}
use Rattle.tables.specs.declared.seat.Seat.{Seat}

-- this is so of one thing and of no other
record IsOne {A : Type 0} (P : A → Type 0) : Type 0 where
  it : A
  so : P it
  only : (other : A) → P other → other ≡ it

-- two tests of one fact are the same
pub same_tests : {P : Type 0} (a b : Bool) → IsTrue a ↔ P → IsTrue b ↔ P → a ≡ b
same_tests true true first second = refl
same_tests false false first second = refl
same_tests true false first second = let wrong : false ≡ true = second.1 (first.0 refl) in cc
same_tests false true first second = let wrong : false ≡ true = first.1 (second.0 refl) in cc

-- a table that goes on by a test breaks one rule first, where the test is one once the first rules
-- are kept
pub same_break : {Code : Type 0} (first : List (Rule Code)) (later : Bool → List (Rule Code)) (a b : Bool) →
    (first_broken first ≡ None → a ≡ b) → first_broken (first ++ later a) ≡ first_broken (first ++ later b)
same_break {Code} first later a b same =
    elim (first_broken first) as (λ (found : Option Code). first_broken first ≡ found
    → first_broken (first ++ later a) ≡ first_broken (first ++ later b)) [
      | None ↦ λ is. ap (λ (test : Bool). first_broken (first ++ later test)) (same is)
      | Some code ↦ λ is. earlier first (later a) code is ∙ sym (earlier first (later b) code is)
    ]
    refl

-- the position of each map state is lawful
module _ (all : MapStatesAreLawful) where
  -- a lay has one outcome
  one_lay_answer : (laid : MapState) (asker : Asker) (lay : Lay) → IsOne (IsLayAnswer laid asker lay)
  one_lay_answer laid asker lay =
      let tested : IsTested (IsConnected (position_of (with_lay laid lay)) asker.company lay) = piece_tested
      (position_of (with_lay laid lay)) asker.company (all (with_lay laid lay)) lay in
      record {
        it = cost_or (lay_cost_of laid.lays lay.hex) (first_broken (lay_rules laid asker lay tested.test));
        so = record { reached = tested.test; exact = λ none. tested.exact; given = refl };
        only = λ other its. its.given
            ∙ ap (cost_or (lay_cost_of laid.lays lay.hex))
            (same_break (map_rules laid asker lay) (lay_reach_rules laid asker lay) its.reached tested.test
            (λ none. same_tests {P = IsConnected (position_of (with_lay laid lay)) asker.company lay} its.reached
            tested.test (its.exact none) tested.exact));
      }

  -- so has a token
  one_token_answer : (laid : MapState) (asker : Asker) (place : Place) → IsOne (IsTokenAnswer laid asker place)
  one_token_answer laid asker place =
      let tested : IsTested (IsReachedPlace (position_of laid) asker.company place) =
      place_tested (position_of laid) asker.company (all laid) place in
      record {
        it = cost_or (token_cost_of laid.tokens asker place.hex)
            (first_broken (token_rules laid asker place tested.test));
        so = record { reached = tested.test; exact = λ none. tested.exact; given = refl };
        only = λ other its. its.given
            ∙ ap (cost_or (token_cost_of laid.tokens asker place.hex))
            (same_break (slot_rules laid asker place) (token_reach_rules laid asker place) its.reached tested.test
            (λ none. same_tests {P = IsReachedPlace (position_of laid) asker.company place} its.reached tested.test
            (its.exact none) tested.exact));
      }

  -- so has the run of the best: there is a greatest revenue, and no second one
  one_best : (by : Operator) (turn : TurnState) (line : Numbered) (rule : Option RunRule)
      → IsOne (BestRuled by turn line rule)
  one_best by turn line (Some rule) = record { it = _; so = refl; only = λ new leads. leads }
  one_best by turn line None =
      let position : Position = position_now turn.game.events in
      let trains : List Kind = trains_now turn.game.events by.company in
      let greatest = a_greatest_exists position by.company trains (all (map_state_now turn.game.events)) in
      record {
        it = best_earned by turn line greatest.0;
        so = (greatest.0, greatest.1, refl);
        only = λ new leads. leads.2
            ∙ ap (best_earned by turn line) (one_greatest position by.company trains leads.0 greatest.0 leads.1
            greatest.1);
      }

  -- an order leads to one turn
  one_order : (by : Operator) (turn : TurnState) (line : Numbered) (its : Order) → IsOne (OrderLeads by turn line its)
  one_order by turn line (order.Play (play.Lay lay)) =
      let answer = one_lay_answer (map_state_now turn.game.events) (asker_of turn.game by.company turn.progress) lay in
      record {
        it = lay_answered by turn line lay answer.it;
        so = record { answer = answer.it; answered = answer.so; after = refl };
        only = λ new leads. leads.after ∙ ap (lay_answered by turn line lay) (answer.only leads.answer leads.answered);
      }
  one_order by turn line (order.Play (play.Token place)) =
      let answer = one_token_answer (map_state_now turn.game.events) (asker_of turn.game by.company turn.progress)
      place in
      record {
        it = token_answered by turn line place answer.it;
        so = record { answer = answer.it; answered = answer.so; after = refl };
        only = λ new leads. leads.after ∙ ap (token_answered by turn line place)
            (answer.only leads.answer leads.answered);
      }
  one_order by turn line (order.Play play.RunBest) = one_best by turn line (best_judgement turn by.company)
  one_order by turn line other = record { it = _; so = refl; only = λ new leads. leads }

  -- two turns to which an order leads are the same
  pub order_once : (by : Operator) (turn : TurnState) (line : Numbered) (its : Order) (a b : TurnState)
      → OrderLeads by turn line its a → OrderLeads by turn line its b → a ≡ b
  order_once by turn line its a b first second = let one =
      one_order by turn line its in one.only a first ∙ sym (one.only b second)

  -- one whose condition is checked does
  one_asked : (by : Operator) (turn : TurnState) (line : Numbered) (its : Order) (held : Bool)
      → IsOne (AskedLeads by turn line its held)
  one_asked by turn line its true = record { it = _; so = refl; only = λ new leads. leads }
  one_asked by turn line its false = one_order by turn line its

  -- a line does
  one_line : (by : Operator) (turn : TurnState) (line : Numbered) (reading : Result Order Fault)
      → IsOne (ReadingLeads by turn line reading)
  one_line by turn line (Err fault) = record { it = _; so = refl; only = λ new leads. leads }
  one_line by turn line (Ok its) = one_asked by turn line its (is_held turn.game.events line.condition its)

  -- lines do
  one_way : (by : Operator) (turn : TurnState) (lines : List Numbered) → IsOne (LinesLead by turn lines)
  one_way by turn [] = record { it = turn; so = refl; only = λ new leads. leads }
  one_way by turn (line ∷ lines) =
      let first = one_line by turn line line.reading in
      let rest = one_way by first.it lines in
      record {
        it = rest.it;
        so = (first.it, first.so, rest.so);
        only = λ new leads. rest.only new (subst (λ (next : TurnState). LinesLead by next lines new)
            (first.only leads.0 leads.1) leads.2);
      }

  -- a company's orders do
  orders_lead_to_one : (file : List ℕ) (round : Round) (company : Company) (turn : TurnState)
      (president : Option Seat) →
      IsOne (CompanyOrdersLead file round company turn president)
  orders_lead_to_one file round company turn None = record { it = turn; so = refl; only = λ new leads. leads }
  orders_lead_to_one file round company turn (Some seat) =
      one_way (record { company = company; president = seat }) turn (company_orders_for file round seat.0 company)

  -- it is known whether a company must buy a train
  due_decided : (game : Game) (company : Company) → Decided (IsDue game company)
  due_decided game company =
      elim (can_run_decided (position_of (map_state_now game.events)) (all (map_state_now game.events)) company) [
        | inr none ↦ inr (λ due. none due.1)
        | inl can ↦
            elim (has_trains game.events company) as (λ (b : Bool). has_trains game.events company ≡ b
            → Decided (IsDue game company)) [
              | true ↦ λ some. inr (λ due. let wrong : true ≡ false = sym some ∙ due.0 in cc)
              | false ↦ λ none. inl (none, can)
            ]
            refl
      ]

  -- so the end of a turn leads to one game
  one_end : (by : Operator) (lines : List Numbered) (game : Game) → IsOne (EndLeads by lines game)
  one_end by lines game =
      elim (due_decided game by.company) [
        | inl due ↦ record {
          it = after_forced by lines game;
          so = inl (due, refl);
          only = λ new ends. elim ends [ inl forced ↦ forced.1 | inr none ↦ absurd (none.0 due) ];
        }
        | inr none ↦ record {
          it = after_raises false by game lines;
          so = inr (none, refl);
          only = λ new ends. elim ends [ inl forced ↦ absurd (none forced.0) | inr other ↦ other.1 ];
        }
      ]

  -- that of a company's orders does
  orders_end_in_one : (file : List ℕ) (round : Round) (company : Company) (game : Game) (president : Option Seat) →
      IsOne (CompanyOrdersEnd file round company game president)
  orders_end_in_one file round company game None = record { it = game; so = refl; only = λ new ends. ends }
  orders_end_in_one file round company game (Some seat) =
      one_end (record { company = company; president = seat }) (company_orders_for file round seat.0 company) game

  -- two games to which that leads are the same
  pub orders_end_once : (file : List ℕ) (round : Round) (company : Company) (game : Game) (president : Option Seat)
      (a b : Game) →
      CompanyOrdersEnd file round company game president a → CompanyOrdersEnd file round company game president b
      → a ≡ b
  orders_end_once file round company game president a b first second =
      let one = orders_end_in_one file round company game president in one.only a first ∙ sym (one.only b second)

  -- and a turn
  outcome : (file : List ℕ) (round : Round) (company : Company) (old : Game)
      → IsOne (IsCompanyTurn file round company old)
  outcome file round company old =
      let president : Option Seat = president_of old.events company in
      let orders = orders_lead_to_one file round company (begun old company) president in
      let paid : Game = (withheld_if_unpaid company orders.it).game in
      let end = orders_end_in_one file round company paid president in
      record {
        it = end.it;
        so = record { last = orders.it; orders = orders.so; after = end.so };
        only = λ new turn. end.only new (subst (λ (last : TurnState). CompanyOrdersEnd file round company
            (withheld_if_unpaid company last).game president new) (orders.only turn.last turn.orders) turn.after);
      }

  -- it has at most one outcome
  pub one_turn : OneCompanyTurn
  one_turn file round company old a b first second =
      let one = outcome file round company old in one.only a first ∙ sym (one.only b second)

  -- and it has one
  pub turn_ends : CompanyTurnEnds
  turn_ends file round company old = let one = outcome file round company old in (one.it, one.so)
