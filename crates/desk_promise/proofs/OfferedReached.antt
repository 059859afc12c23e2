-- Play comes to the head of a company's orders that is told of a file with one player's sheet, if all sheets have the same
-- before it.
use Rattle.std.proofs.Common.{◌≡◌, ℕ, false, List, [], ◌∷◌, ◌++◌, Option, Some, None, refl, sym, ap, subst, ◌∙◌}
use Rattle.std.specs.List.{range_with_len}
use Rattle.std.proofs.lemmas.Bool.{or_parts}
use Rattle.desk_promise.proofs.Longer.{◌⨾◌, GoesOn, by_events, by_revenues}
use Rattle.desk_promise.proofs.OrdersReached.{FirstLineStands, by_added, by_turns, from_line, from_turn}
use Rattle.desk_promise.proofs.TurnSheets.{line_at}
use Rattle.events.specs.declared.event.Event.TheVariants as event
use Rattle.forced_purchase.specs.declared.operator.Operator.{Operator}
use Rattle.foresight.specs.Ahead.{AheadState, OrdersState, opened_state}
use Rattle.foresight.specs.Draft.{after_standing_of, file_of, opened_ahead, orders_of}
use Rattle.foresight.specs.Orders.{HaveTurns, IsAhead, is_among}
use Rattle.foresight.specs.declared.round_ahead.Ahead.TheVariants.{AtOrders}
use Rattle.operating.proofs.TurnGames.{of_home}
use Rattle.operating.proofs.TurnLaws.{adds_by}
use Rattle.operating.specs.CompanyOrders.{LinesLead}
use Rattle.operating.specs.Laws.{OneCompanyTurn, OnlyAdds, TurnOnlyAdds}
use Rattle.operating.specs.Pay.{withheld_if_unpaid}
use Rattle.operating.specs.Turn.{CompanyOrdersEnd, CompanyOrdersLead, IsCompanyTurn, begun}
use Rattle.operating.specs.TurnEnd.{EndLeads}
use Rattle.operating.specs.TurnState.{TurnState}
use Rattle.order_grammar.specs.declared.order.Order.{Order}
use Rattle.rounds.specs.OperatingRound.{IsOperatingRound, TakeTurns, TakesTurn, left_events, operating_round_opened}
use Rattle.sheets.specs.CompanyOrders.{company_orders_for}
use Rattle.sheets.specs.Part.{Numbered}
use Rattle.tables.specs.Roster.{privates, same_company}
use Rattle.tables.specs.declared.roster.Company.{Company}
use Rattle.tables.specs.declared.round.Round.{Round}
use Rattle.tables.specs.declared.seat.Seat.{Seat}
use Rattle.totals.specs.LookBack.{Game}
use Rattle.totals.specs.Shares.{president_of}

-- two files have no orders of a company for a round
record HaveNone (told file : List ℕ) (round : Round) (company : Company) : Type 0 where
  in_told : (seat : ℕ) → company_orders_for told round seat company ≡ []
  in_file : (seat : ℕ) → company_orders_for file round seat company ≡ []

-- so its turn in one is its turn in the other
orders_too : (told file : List ℕ) (round : Round) (company : Company) (turn : TurnState) (president : Option Seat)
    (new : TurnState) → HaveNone told file round company
    → CompanyOrdersLead told round company turn president new → CompanyOrdersLead file round company turn president new
orders_too told file round company turn None new none leads = leads
orders_too told file round company turn (Some seat) new none leads =
    subst (λ (lines : List Numbered). LinesLead (record { company = company; president = seat }) turn lines new)
    (none.in_told seat.0 ∙ sym (none.in_file seat.0)) leads

end_too : (told file : List ℕ) (round : Round) (company : Company) (game : Game) (president : Option Seat) (new : Game)
    → HaveNone told file round company
    → CompanyOrdersEnd told round company game president new → CompanyOrdersEnd file round company game president new
end_too told file round company game None new none ends = ends
end_too told file round company game (Some seat) new none ends =
    subst (λ (lines : List Numbered). EndLeads (record { company = company; president = seat }) lines game new)
    (none.in_told seat.0 ∙ sym (none.in_file seat.0)) ends

turn_too : (told file : List ℕ) (round : Round) (company : Company) (old new : Game) → HaveNone told file round company
    → IsCompanyTurn told round company old new → IsCompanyTurn file round company old new
turn_too told file round company old new none turn =
    record {
      last = turn.last;
      orders =
          orders_too told file round company (begun old company) (president_of old.events company) turn.last none turn.orders;
      after =
          end_too told file round company (withheld_if_unpaid company turn.last).game (president_of old.events company) new
          none turn.after;
    }

-- a round is played in the one file as it is told of the other up to a company, and then the company has this line
pub record IsToldSo (told : List ℕ) (drafter : Option Seat) (file : List ℕ) (round : Round) (old : Game) (by : Operator)
    (line : Numbered) : Type 0 where
  pub opened : opened_ahead told drafter round old ≡ operating_round_opened file round old
  pub nothing_told : orders_of told drafter round by ≡ []
  pub own : company_orders_for file round by.president.0 by.company ≡ line ∷ []
  pub others_told : (other : Company) → same_company other by.company ≡ false → (president : Option Seat) (seat : ℕ)
      → company_orders_for (file_of told president drafter) round seat other ≡ []
  pub others : (other : Company) → same_company other by.company ≡ false → (seat : ℕ)
      → company_orders_for file round seat other ≡ []

-- a state is that of this file and round
record IsStateOf (told : List ℕ) (drafter : Option Seat) (round : Round) (ahead : AheadState) : Type 0 where
  file : ahead.file ≡ told
  drafted : ahead.drafter ≡ drafter
  its : ahead.round ≡ round

-- the turns that are told of other companies are their turns in play
module _ (told : List ℕ) (drafter : Option Seat) (file : List ℕ) (round : Round) (opening : Game) (by : Operator)
    (line : Numbered) (so : IsToldSo told drafter file round opening by line) where
  turns_too : (before : List Company) (old new : AheadState) → IsStateOf told drafter round old
      → is_among by.company before ≡ false → HaveTurns before old new → TakeTurns file round before old.game new.game
  turns_too [] old new of apart turns = ap (λ (ahead : AheadState). ahead.game) turns
  turns_too (other ∷ others) old new of apart turns =
      let parts = or_parts (same_company other by.company) (is_among by.company others) apart in
      let president : Option Seat = president_of old.game.events other in
      let mid : AheadState = turns.0 in
      let its : IsCompanyTurn (file_of told president drafter) round other old.game mid.game =
      subst (λ (f : List ℕ). IsCompanyTurn (file_of f president drafter) round other old.game mid.game) of.file
      (subst (λ (d : Option Seat). IsCompanyTurn (file_of old.file president d) round other old.game mid.game) of.drafted
      (subst (λ (r : Round). IsCompanyTurn (file_of old.file president old.drafter) r other old.game mid.game) of.its
      turns.2.turn)) in
      let turn : TakesTurn file round other old.game mid.game =
      record {
        is_next = turns.1;
        turn = turn_too (file_of told president drafter) file round other old.game mid.game (record {
          in_told = so.others_told other parts.0 president;
          in_file = so.others other parts.0;
        }) its;
      } in (
        mid.game,
        turn,
        turns_too others mid new (record {
          file = ap (λ (ahead : AheadState). ahead.file) turns.2.same ∙ of.file;
          drafted = ap (λ (ahead : AheadState). ahead.drafter) turns.2.same ∙ of.drafted;
          its = ap (λ (ahead : AheadState). ahead.round) turns.2.same ∙ of.its;
        }) parts.1 turns.3,
      )

  -- nothing else changes while they are taken
  state_stays : (before : List Company) (old new : AheadState) → IsStateOf told drafter round old → HaveTurns before old new
      → IsStateOf told drafter round new
  state_stays [] old new of turns = subst (λ (ahead : AheadState). IsStateOf told drafter round ahead) turns of
  state_stays (other ∷ others) old new of turns =
      state_stays others turns.0 new (record {
        file = ap (λ (ahead : AheadState). ahead.file) turns.2.same ∙ of.file;
        drafted = ap (λ (ahead : AheadState). ahead.drafter) turns.2.same ∙ of.drafted;
        its = ap (λ (ahead : AheadState). ahead.round) turns.2.same ∙ of.its;
      }) turns.3

-- the head is at the start of the company's turn
pub head_too : (told : List ℕ) (drafter : Option Seat) (file : List ℕ) (round : Round) (company : Company)
    (orders : OrdersState) (old : Game) (line : Numbered)
    (ahead : IsAhead company (opened_state told drafter round old) (AtOrders orders))
    → IsToldSo told drafter file round old (record { company = company; president = ahead.led.0 }) line
    → orders.turn ≡ begun ahead.mid.game company
head_too told drafter file round company orders old line ahead so =
    let by : Operator = record { company = company; president = ahead.led.0 } in
    let mid : AheadState = ahead.mid in
    let start : AheadState = opened_state told drafter round old in
    let of = state_stays told drafter file round old by line so ahead.taken.before start mid
    (record { file = refl; drafted = refl; its = refl }) ahead.taken.turns in
    subst (λ (lines : List Numbered). LinesLead by (begun mid.game company) lines orders.turn) so.nothing_told
    (subst (λ (f : List ℕ). LinesLead by (begun mid.game company) (orders_of f drafter round by) orders.turn) of.file
    (subst (λ (d : Option Seat). LinesLead by (begun mid.game company) (orders_of mid.file d round by) orders.turn) of.drafted
    (subst (λ (r : Round). LinesLead by (begun mid.game company) (orders_of mid.file mid.drafter r by) orders.turn) of.its
    ahead.led.2.turn)))

-- play comes to that head, and goes on after the first line
pub record ComesTo (orders : OrdersState) (line : Numbered) (its : Order) (round : Round) (old new : Game) : Type 0 where
  pub heading : GoesOn (old.events ++ event.Round round ∷ []) orders.turn.game.events
  pub line_stands : FirstLineStands orders.by orders.turn line its new.events

pub play_comes : OneCompanyTurn → TurnOnlyAdds → (told : List ℕ) (drafter : Option Seat) (file : List ℕ) (round : Round)
    (company : Company) (orders : OrdersState) (old new : Game) (number : ℕ) (its : Order)
    → (ahead : IsAhead company (opened_state told drafter round old) (AtOrders orders))
    → IsToldSo told drafter file round old orders.by (line_at number its)
    → GoesOn (old.events ++ event.Round round ∷ [])
    (after_standing_of told drafter round (old.events ++ event.Round round ∷ []))
    → IsOperatingRound file round old new → ComesTo orders (line_at number its) its round old new
play_comes once adds told drafter file round company orders old new number its ahead told_so standing played =
    let by : Operator = record { company = company; president = ahead.led.0 } in
    let line : Numbered = line_at number its in
    let mid : Game = ahead.mid.game in
    let behind = ahead.led.2 in
    let start : AheadState = opened_state told drafter round old in
    let so : IsToldSo told drafter file round old by line =
    subst (λ (o : Operator). IsToldSo told drafter file round old o line) behind.its told_so in
    let first : TakeTurns file round ahead.taken.before (operating_round_opened file round old) mid =
    subst (λ (game : Game). TakeTurns file round ahead.taken.before game mid) so.opened
    (turns_too told drafter file round old by line so ahead.taken.before start ahead.mid
    (record { file = refl; drafted = refl; its = refl }) ahead.taken.others ahead.taken.turns) in
    let from = from_turn once file round ahead.taken.before played.turns.companies company
    (operating_round_opened file round old) mid played.turned first ahead.is_next played.turns.turns
    played.turns.over_then in
    let stands : FirstLineStands by (begun mid company) line its from.after.events =
    from_line file round by mid from.after ahead.led.1 from.turn number its so.own in
    let led : orders.turn ≡ begun mid company = head_too told drafter file round company orders old line ahead so in
    let paid : GoesOn (old.events ++ event.Round round ∷ []) (opened_ahead told drafter round old).events =
    standing ⨾ by_revenues old.seats (after_standing_of told drafter round (old.events ++ event.Round round ∷ [])) privates in
    let heading : GoesOn (old.events ++ event.Round round ∷ []) (begun mid company).game.events =
    subst (λ (game : Game). GoesOn (old.events ++ event.Round round ∷ []) game.events) so.opened paid
    ⨾ by_turns adds file round ahead.taken.before (operating_round_opened file round old) mid first
    ⨾ by_added (of_home company OnlyAdds (adds_by company) mid) in
    let to_end : GoesOn from.after.events new.events =
    subst (λ (game : Game). GoesOn from.after.events game.events) (sym played.after)
    (by_turns adds file round from.rest from.after played.turned from.later
    ⨾ by_events played.turned.events (left_events file round played.turned.events (range_with_len 0 old.seats))) in
    let whole : FirstLineStands by (begun mid company) line its new.events =
    record {
      next = stands.next;
      leads = stands.leads;
      stands = stands.stands ⨾ to_end;
      ended = stands.ended;
      ends = stands.ends;
      later = stands.later ⨾ to_end;
    } in
    record {
      heading = subst (λ (turn : TurnState). GoesOn (old.events ++ event.Round round ∷ []) turn.game.events) (sym led) heading;
      line_stands =
          subst (λ (o : Operator). FirstLineStands o orders.turn line its new.events) (sym behind.its)
          (subst (λ (turn : TurnState). FirstLineStands by turn line its new.events) (sym led) whole);
    }
