-- The lines of a player's companies that may --lines writes before an operating round are true.
use Rattle.std.proofs.Common.{◌≡◌, ℕ, zero, suc, ◌<◌, Bool, true, false, List, [], ◌∷◌, ◌++◌, length, map}
use Rattle.std.proofs.Common.{Option, Some, None, append-nil, refl, sym, ap, subst, ◌∙◌, inl, inr}
use Rattle.std.specs.Prelude.{if◌then◌else◌}
use Rattle.std.specs.List.{AllByRecursion}
use Rattle.std.proofs.lemmas.Bool.{eqb-true, or_parts}
use Rattle.std.proofs.lemmas.Grind.{flat_map-append}
use Rattle.std.proofs.lemmas.List.Folds.{flat_map-map}
use Rattle.desk_may.specs.Offerers.{as_offered, may_offer, offered_row, presidents_of}
use Rattle.desk_may.specs.OperatingLines.{AddsOperatingLines, AreRaiseLines, HaveTurnsWritten, IsOwnTurn, IsTurnWritten}
use Rattle.desk_may.specs.OperatingLines.{company_head, private_rows_of, raise_rows_of, train_lines, train_rows_of}
use Rattle.desk_may.specs.RowLines.{row_line, row_lines}
use Rattle.desk_may.specs.SheetLines.{standing_lines}
use Rattle.desk_promise.specs.CompanyLines.{IsHeadAwaited, order_file, ruled_second}
use Rattle.desk_promise.specs.CompanyRows.{IsRowReported, PrivateRowsAreReported, RaiseRowsAreReported, TrainRowsAreReported}
use Rattle.desk_promise.specs.CompanyRows.{once_forced}
use Rattle.desk_promise.specs.LineFile.{IsEnded}
use Rattle.desk_promise.specs.LinesTold.{AreTrueCompanies, AreTrueOrders, in_one}
use Rattle.desk_promise.specs.Moves.{MovesAsTold, MovesInOrders}
use Rattle.desk_promise.specs.Reported.{IsReportedNext}
use Rattle.events.specs.declared.ruling.Refusal.{Refusal}
use Rattle.events.specs.declared.ruling.Refusal.TheVariants as refusal
use Rattle.events.specs.declared.ruling.TrainRule.TheVariants.{NoConsent}
use Rattle.events.specs.declared.event.Event.{Event}
use Rattle.forced_purchase.specs.Raise.{raises_in}
use Rattle.forced_purchase.specs.declared.operator.Operator.{Operator}
use Rattle.foresight.proofs.TurnsAhead.{others_too}
use Rattle.foresight.specs.Ahead.{AheadState, HasTurn, OrdersState, opened_state, with_game, withheld_in}
use Rattle.foresight.specs.Draft.{file_of, orders_of}
use Rattle.foresight.specs.Orders.{IsAhead, OthersHaveTurns}
use Rattle.foresight.specs.declared.round_ahead.Ahead.TheVariants.{AtOrders}
use Rattle.market.specs.OperatingOrder.{IsOperatingOrder, next_company, operating_order_of}
use Rattle.moves.specs.RowLaws.{rule_told}
use Rattle.moves.specs.declared.row.Answer.{Answer}
use Rattle.moves.specs.declared.row.Answer.TheVariants.{Obeyed, WithConsent, Refused}
use Rattle.moves.specs.declared.row.Row.{Row}
use Rattle.operating.proofs.Idle.{next_is_idle}
use Rattle.operating.proofs.NoSheet.{no_orders}
use Rattle.operating.specs.CompanyOrders.{LinesLead}
use Rattle.operating.specs.Laws.{CompanyOperates}
use Rattle.operating.specs.Pay.{withheld, withheld_if_unpaid}
use Rattle.operating.specs.Progress.{is_unpaid, pay_done}
use Rattle.operating.specs.Turn.{CompanyOrdersEnd, CompanyOrdersLead, IsCompanyTurn, begun}
use Rattle.operating.specs.TurnEnd.{EndLeads}
use Rattle.operating.specs.TurnState.{TurnState, turn_state}
use Rattle.order_grammar.specs.Spells.{is_round_of_line}
use Rattle.order_grammar.specs.declared.order.Offer.TheVariants as offer
use Rattle.order_grammar.specs.declared.order.Order.TheVariants.{Play}
use Rattle.purchases.specs.Discard.{is_president}
use Rattle.reach.proofs.Lists.{all_push}
use Rattle.rounds.specs.Play.{Between, Plays}
use Rattle.rounds.specs.declared.following.Next.TheVariants as next
use Rattle.sheets.specs.File.{IsAccepted, players_of}
use Rattle.sheets.specs.Part.{Numbered}
use Rattle.tables.specs.Roster.{same_company}
use Rattle.tables.specs.declared.roster.Company.{Company}
use Rattle.tables.specs.declared.round.Round.{Round}
use Rattle.tables.specs.declared.round.Round.TheVariants.{Operating}
use Rattle.tables.specs.declared.seat.Seat.{Seat}
use Rattle.totals.specs.LookBack.{Game}
use Rattle.totals.specs.Operating.{has_operated}
use Rattle.totals.specs.Shares.{president_of}
use Rattle.turns.specs.Ruling.{judged}

-- whoever passes for the president presides
president_is : (president : Option Seat) (seat : Seat) → is_president president seat ≡ true → president ≡ Some seat
president_is None seat is = absurd (cc)
president_is (Some its) seat is = ap (λ (n : ℕ). Some (record { 0 = n })) (eqb-true its.0 seat.0 is)

-- a state is another with its own game, if all else is the same
same_ahead : (a b : AheadState) → a.file ≡ b.file → a.drafter ≡ b.drafter → a.round ≡ b.round → a ≡ with_game b a.game
same_ahead a b file drafter round = λ i. record { file = file i; drafter = drafter i; round = round i; game = a.game }

-- a company withholds once
abbrev after_withholding : Company → TurnState → TurnState
after_withholding company turn =
    turn_state (withheld turn.game company turn.progress.runs.revenue) (pay_done turn.progress)

withheld_again : (company : Company) (turn : TurnState) (unpaid : Bool) → is_unpaid turn.progress ≡ unpaid
    → withheld_if_unpaid company (if unpaid then after_withholding company turn else turn)
    ≡ (if unpaid then after_withholding company turn else turn)
withheld_again company turn true is = refl
withheld_again company turn false is = ap (λ (b : Bool). if b then after_withholding company turn else turn) is

withheld_twice : (company : Company) (turn : TurnState)
    → withheld_if_unpaid company (withheld_if_unpaid company turn) ≡ withheld_if_unpaid company turn
withheld_twice company turn = withheld_again company turn (is_unpaid turn.progress) refl

-- the turn of a company of which lines are written is its turn in a file without a sheet
module _ (presidents : List (Option Seat)) (by : Operator) (mid now : AheadState) (lines : List ℕ)
    (none : mid.drafter ≡ None) (presides : president_of mid.game.events by.company ≡ Some by.president)
    (own : IsOwnTurn presidents by mid now lines) where
  nothing_drafted : LinesLead by (begun mid.game by.company) [] own.orders.turn
  nothing_drafted =
      subst (λ (drafter : Option Seat). LinesLead by (begun mid.game by.company) (orders_of mid.file drafter mid.round by)
      own.orders.turn) none own.behind.turn

  no_raises : own.orders.raises ≡ []
  no_raises =
      own.behind.raises ∙ ap (λ (drafter : Option Seat). raises_in (orders_of mid.file drafter mid.round by)) none

  its_end : EndLeads by [] (withheld_if_unpaid by.company own.orders.turn).game now.game
  its_end =
      subst (λ (turn : TurnState). EndLeads by [] turn.game now.game) (withheld_twice by.company own.orders.turn)
      (subst (λ (o : Operator). EndLeads o [] (withheld_if_unpaid o.company (withheld_if_unpaid o.company own.orders.turn)).game
      now.game) own.behind.its
      (subst (λ (raises : List Numbered). EndLeads own.orders.by raises (withheld_if_unpaid own.orders.by.company
      (withheld_if_unpaid own.orders.by.company own.orders.turn)).game now.game) no_raises own.ended.ends))

  its_turn : IsCompanyTurn [] mid.round by.company mid.game now.game
  its_turn =
      let nothing = sym (no_orders mid.round by.president.0 by.company) in
      record {
        last = own.orders.turn;
        orders =
            subst (λ (president : Option Seat). CompanyOrdersLead [] mid.round by.company (begun mid.game by.company) president
            own.orders.turn) (sym presides)
            (subst (λ (its : List Numbered). LinesLead by (begun mid.game by.company) its own.orders.turn) nothing
            nothing_drafted);
        after =
            subst (λ (president : Option Seat). CompanyOrdersEnd [] mid.round by.company
            (withheld_if_unpaid by.company own.orders.turn).game president now.game) (sym presides)
            (subst (λ (its : List Numbered). EndLeads by its (withheld_if_unpaid by.company own.orders.turn).game now.game)
            nothing its_end);
      }

  own_turn : HasTurn by.company mid now
  own_turn =
      record {
        same =
            same_ahead now mid (own.ended.file ∙ own.behind.file) (own.ended.drafter ∙ own.behind.drafter)
            (own.ended.round ∙ own.behind.round);
        turn =
            subst (λ (drafter : Option Seat). IsCompanyTurn (file_of mid.file (president_of mid.game.events by.company) drafter)
            mid.round by.company mid.game now.game) (sym none) its_turn;
      }

-- a turn that is written is taken
turn_taken : (presidents : List (Option Seat)) (seat : Seat) (company : Company) (mid now : AheadState) (lines : List ℕ)
    → mid.drafter ≡ None → IsTurnWritten presidents seat company mid now lines → HasTurn company mid now
turn_taken presidents seat company mid now lines none (inl its) =
    own_turn presidents (record { company = company; president = seat }) mid now lines none
    (president_is (president_of mid.game.events company) seat its.0) its.1
turn_taken presidents seat company mid now lines none (inr its) = its.1

-- what stays the same while turns are taken
pub record StaysSo (opened now : AheadState) : Type 0 where
  pub file : now.file ≡ opened.file
  pub drafter : now.drafter ≡ opened.drafter

stays_so : (presidents : List (Option Seat)) (seat : Seat) (count : ℕ) (opened now : AheadState) (lines : List ℕ)
    → opened.drafter ≡ None → HaveTurnsWritten presidents seat count opened now lines → StaysSo opened now
stays_so presidents seat zero opened now lines none have =
    record {
      file = ap (λ (ahead : AheadState). ahead.file) have.0;
      drafter = ap (λ (ahead : AheadState). ahead.drafter) have.0;
    }
stays_so presidents seat (suc count) opened now lines none have =
    let before = stays_so presidents seat count opened have.0 have.1 none have.4 in
    let turn = turn_taken presidents seat have.3 have.0 now have.2 (before.drafter ∙ none) have.6 in
    record {
      file = ap (λ (ahead : AheadState). ahead.file) turn.same ∙ before.file;
      drafter = ap (λ (ahead : AheadState). ahead.drafter) turn.same ∙ before.drafter;
    }

-- of a company that has not operated, others have had their turns before
others_before : CompanyOperates → (presidents : List (Option Seat)) (seat : Seat) (company : Company) (count : ℕ)
    (opened now : AheadState) (lines : List ℕ) → opened.drafter ≡ None
    → HaveTurnsWritten presidents seat count opened now lines → has_operated now.game.events company ≡ false
    → OthersHaveTurns company opened now
others_before operates presidents seat company zero opened now lines none have idle =
    record { before = []; turns = sym have.0; others = refl }
others_before operates presidents seat company (suc count) opened now lines none have idle =
    let mid : AheadState = have.0 in
    let before = stays_so presidents seat count opened mid have.1 none have.4 in
    let turn = turn_taken presidents seat have.3 mid now have.2 (before.drafter ∙ none) have.6 in
    let law = operates (file_of mid.file (president_of mid.game.events have.3) mid.drafter) mid.round have.3 mid.game now.game
    turn.turn company in
    let parts = or_parts (has_operated mid.game.events company) (same_company have.3 company) (sym law ∙ idle) in
    others_too company have.3 opened mid now
    (others_before operates presidents seat company count opened mid have.1 none have.4 parts.0) have.5 turn parts.1

-- what a row tells of the rule is the same where its consent may come too late
same_rule : (presidents : List (Option Seat)) (answer : Answer) → rule_told (as_offered presidents answer) ≡ rule_told answer
same_rule presidents (Obeyed price) = refl
same_rule presidents (Refused rule) = refl
same_rule presidents (WithConsent price giver (offer.Private private buyer cost)) = refl
same_rule presidents (WithConsent price giver (offer.Train kind seller buyer cost)) =
    elim (may_offer presidents giver (offer.Train kind seller buyer cost)) as (λ (b : Bool).
    rule_told (if b then WithConsent price giver (offer.Train kind seller buyer cost) else Refused (refusal.Train NoConsent))
    ≡ Some (refusal.Train NoConsent)) [
      | true ↦ refl
      | false ↦ refl
    ]

-- nor does it move anything then
same_moves : (presidents : List (Option Seat)) (answer : Answer) (Moves : ℕ → List Event → Type 0) (moved : List Event)
    → MovesAsTold answer Moves moved → MovesAsTold (as_offered presidents answer) Moves moved
same_moves presidents (Obeyed price) Moves moved told = told
same_moves presidents (Refused rule) Moves moved told = told
same_moves presidents (WithConsent price giver sale) Moves moved told =
    elim (may_offer presidents giver sale) as (λ (b : Bool).
    MovesAsTold (if b then WithConsent price giver sale else Refused (refusal.Train NoConsent)) Moves moved) [
      | true ↦ told
      | false ↦ told
    ]

-- so such a row is as the report says if the row is
offered_reported : (file : List ℕ) (game : Game) (round : Round) (by : Operator) (head : Game)
    (presidents : List (Option Seat)) (row : Row) → IsRowReported file game round by head row
    → IsRowReported file game round by head (offered_row presidents row)
offered_reported file game round by head presidents row reported fit also text report =
    let its = reported fit also text report in
    record {
      moved = its.moved;
      as_told = same_moves presidents row.answer (MovesInOrders head by row.order) its.moved its.as_told;
      reported =
          subst (λ (rule : Option Refusal). IsReportedNext (order_file file round by row.order) text game round head
          (ruled_second by (judged None (Play row.order) rule) ∷ its.moved)) (sym (same_rule presidents row.answer))
          its.reported;
    }

all_offered : (file : List ℕ) (game : Game) (round : Round) (by : Operator) (head : Game)
    (presidents : List (Option Seat)) (rows : List Row) → AllByRecursion (IsRowReported file game round by head) rows
    → AllByRecursion (IsRowReported file game round by head) (map (offered_row presidents) rows)
all_offered file game round by head presidents [] all = tt
all_offered file game round by head presidents (row ∷ rows) all = (
  offered_reported file game round by head presidents row all.0,
  all_offered file game round by head presidents rows all.1,
)

-- texts that are true, one after another
record AreTrueTexts (file : List ℕ) (game : Game) (round : Round) (seat : Seat) (text : List ℕ) : Type 0 where
  texts : List (List ℕ)
  are : text ≡ in_one texts
  reported : AllByRecursion (AreTrueOrders file game round seat) texts

-- the rows of RAISE whose lines are there, of a company at the start of its orders
record AreTrueRaises (file : List ℕ) (game : Game) (round : Round) (orders : OrdersState) (text : List ℕ) : Type 0 where
  rows : List Row
  are : text ≡ row_lines file rows
  reported : AllByRecursion (IsRowReported file game round orders.by (once_forced orders)) rows

raises_true : RaiseRowsAreReported → (file : List ℕ) (last : Between) (set number : ℕ) (company : Company)
    (orders : OrdersState) (text : List ℕ) → orders.file ≡ file
    → IsHeadAwaited file last (Operating set number) company orders → AreRaiseLines (withheld_in orders) text
    → AreTrueRaises file last.game (Operating set number) orders text
raises_true law file last set number company orders text same awaited (inl due) =
    let rows : List Row = raise_rows_of (withheld_in orders).turn.game orders.by in
    record {
      rows = rows;
      are = due.1 ∙ ap (λ (f : List ℕ). row_lines f rows) same;
      reported = law file last set number company orders awaited due.0;
    }
raises_true law file last set number company orders text same awaited (inr none) =
    record { rows = []; are = none.1; reported = tt }

module _ (trains : TrainRowsAreReported) (privates : PrivateRowsAreReported) (raising : RaiseRowsAreReported)
    (operates : CompanyOperates)
    (ordered : (events : List Event) → IsOperatingOrder events (operating_order_of events)) (file : List ℕ) (last : Between)
    (set number : ℕ) (accepted : IsAccepted file) (end : IsEnded file) (plays : Plays file last)
    (comes : last.next ≡ next.Round (Operating set number)) (its : is_round_of_line (Operating set number) ≡ true)
    (seat : Seat) (at_table : seat.0 < length (players_of file)) where
  abbrev round : Round
  round = Operating set number

  abbrev opened : AheadState
  opened = opened_state file None round last.game

  abbrev presidents : List (Option Seat)
  presidents = presidents_of last.game.events

  -- the lines of one company are true
  own_true : (count : ℕ) (mid now : AheadState) (before lines : List ℕ) (company : Company)
      → HaveTurnsWritten presidents seat count opened mid before → next_company mid.game.events ≡ Some company
      → is_president (president_of mid.game.events company) seat ≡ true
      → IsOwnTurn presidents (record { company = company; president = seat }) mid now lines
      → AreTrueOrders file last.game round seat lines
  own_true count mid now before lines company have is_next presides own =
      let orders : OrdersState = own.orders in
      let by : Operator = record { company = company; president = seat } in
      let stays = stays_so presidents seat count opened mid before refl have in
      let idle = (next_is_idle ordered mid.game.events company is_next).1 in
      let whose : orders.by.president ≡ seat = ap (λ (o : Operator). o.president) own.behind.its in
      let awaited : IsHeadAwaited file last round company orders = record {
        accepted = accepted;
        ended = end;
        plays = plays;
        comes = comes;
        of_line = its;
        ahead = record {
          mid = mid;
          taken = others_before operates presidents seat company count opened mid before refl have idle;
          is_next = is_next;
          led = (seat, president_is (president_of mid.game.events company) seat presides, own.behind);
        };
        at_table = subst (λ (s : Seat). s.0 < length (players_of file)) (sym whose) at_table;
      } in
      let same_file : orders.file ≡ file = own.behind.file ∙ stays.file in
      let train_rows : List Row = train_rows_of (withheld_in orders).turn.game orders.by.company in
      let private_rows : List Row = private_rows_of orders.turn.game orders.by.company in
      let offered : train_lines presidents (withheld_in orders) ≡ row_lines file (map (offered_row presidents) train_rows) =
      sym (flat_map-map (row_line orders.file) (offered_row presidents) train_rows)
      ∙ ap (λ (f : List ℕ). row_lines f (map (offered_row presidents) train_rows)) same_file in
      let raised = raises_true raising file last set number company orders own.written.raised same_file awaited own.written.due in
      let above : List ℕ = company_head orders.by.company ++ row_lines file (map (offered_row presidents) train_rows) in
      record {
        orders = orders;
        theirs = whose;
        ahead =
            subst (λ (its : Company). IsAhead its opened (AtOrders orders))
            (sym (ap (λ (o : Operator). o.company) own.behind.its)) awaited.ahead;
        trains = map (offered_row presidents) train_rows;
        privates = private_rows;
        raises = raised.rows;
        are =
            own.written.all
            ∙ ap (λ (text : List ℕ). company_head orders.by.company ++ text ++ row_lines orders.file private_rows
            ++ own.written.raised) offered
            ∙ ap (λ (f : List ℕ). above ++ row_lines f private_rows ++ own.written.raised) same_file
            ∙ ap (λ (text : List ℕ). above ++ row_lines file private_rows ++ text) raised.are;
        trains_reported =
            all_offered file last.game round orders.by (withheld_in orders).turn.game presidents train_rows
            (trains file last set number company orders awaited);
        privates_reported = privates file last set number company orders awaited;
        raises_reported = raised.reported;
      }

  -- so are those of some companies
  all_true : (count : ℕ) (now : AheadState) (lines : List ℕ) → HaveTurnsWritten presidents seat count opened now lines
      → AreTrueTexts file last.game round seat lines
  all_true zero now lines have = record { texts = []; are = have.1; reported = tt }
  all_true (suc count) now lines have =
      let before = all_true count have.0 have.1 have.4 in
      elim have.6 [
        | inl own ↦ record {
          texts = before.texts ++ have.2 ∷ [];
          are =
              have.7 ∙ ap (λ (text : List ℕ). text ++ have.2) before.are
              ∙ sym (flat_map-append (λ (text : List ℕ). text) before.texts (have.2 ∷ [])
              ∙ ap (λ (text : List ℕ). in_one before.texts ++ text) (append-nil have.2));
          reported =
              all_push (AreTrueOrders file last.game round seat) before.texts have.2 before.reported
              (own_true count have.0 now have.1 have.2 have.3 have.4 have.5 own.0 own.1);
        }
        | inr other ↦ record {
          texts = before.texts;
          are =
              have.7 ∙ ap (λ (text : List ℕ). have.1 ++ text) other.2 ∙ append-nil have.1 ∙ before.are;
          reported = before.reported;
        }
      ]

  pub companies_true : (text : List ℕ) → AddsOperatingLines file None round seat last.game [] text
      → AreTrueCompanies file last.game round seat text
  companies_true text adds =
      let all = all_true adds.written.count adds.written.last adds.turns adds.written.turns in
      record {
        companies = all.texts;
        are = adds.added ∙ ap (λ (turns : List ℕ). standing_lines file last.game round seat ++ turns) all.are;
        reported = all.reported;
      }
