-- Play comes to the head of a company's orders that is told, if the one line of all sheets is the
-- company's, and then the list goes on after that line.
use Rattle.std.proofs.Common.{◌≡◌, ℕ, Bool, false, List, [], ◌∷◌, ◌++◌, Option, Some, None}
use Rattle.std.proofs.Common.{refl, sym, ap, subst, ◌∙◌}
use Rattle.std.specs.List.{range_with_len}
use Rattle.std.proofs.Math.Bool.{and-false}
use Rattle.std.proofs.lemmas.Bool.{or_parts}
use Rattle.desk_promise.proofs.Longer.{◌⨾◌, GoesOn, by_events, by_revenues, stays}
use Rattle.desk_promise.proofs.TurnSheets.{line_at}
use Rattle.events.specs.declared.event.Event.{Event}
use Rattle.events.specs.declared.event.Event.TheVariants as event
use Rattle.forced_purchase.specs.declared.operator.Operator.{Operator}
use Rattle.foresight.proofs.ReachedLemmas.{none_standing}
use Rattle.foresight.specs.Ahead.{AheadState, OrdersState, opened_state}
use Rattle.foresight.specs.Draft.{file_of, opened_ahead, orders_of}
use Rattle.foresight.specs.Orders.{HaveTurns, IsAhead, is_among}
use Rattle.foresight.specs.declared.round_ahead.Ahead.TheVariants.{AtOrders}
use Rattle.history.specs.Record.{revenues_recorded}
use Rattle.market.specs.OperatingOrder.{next_company}
use Rattle.operating.proofs.ForcedGames.{of_orders_end}
use Rattle.operating.proofs.NoSheet.{no_orders}
use Rattle.operating.proofs.TurnGames.{of_home, of_steps}
use Rattle.operating.proofs.TurnLaws.{adds_by, more_adds}
use Rattle.operating.proofs.TurnSteps.{of_withheld_if_unpaid}
use Rattle.operating.specs.CompanyOrders.{AskedLeads, LineLeads, LinesLead, OrderLeads, is_ruled_there}
use Rattle.operating.specs.Laws.{OneCompanyTurn, OnlyAdds, TurnOnlyAdds}
use Rattle.operating.specs.Pay.{withheld_if_unpaid}
use Rattle.operating.specs.Progress.{at_start}
use Rattle.operating.specs.Turn.{CompanyOrdersEnd, CompanyOrdersLead, IsCompanyTurn, begun}
use Rattle.operating.specs.TurnEnd.{EndLeads}
use Rattle.operating.specs.TurnState.{TurnState, turn_state}
use Rattle.order_grammar.specs.declared.order.Order.{Order}
use Rattle.purchases.specs.Standing.{after_operating_standing_line}
use Rattle.rounds.specs.OperatingRound.{IsOperatingRound, TakeTurns, TakesTurn, left_events, operating_round_opened}
use Rattle.sheets.specs.CompanyOrders.{company_orders_for}
use Rattle.sheets.specs.Part.{Numbered, parts_for}
use Rattle.tables.specs.Roster.{privates, same_company}
use Rattle.tables.specs.declared.roster.Company.{Company}
use Rattle.tables.specs.declared.round.Round.{Round}
use Rattle.tables.specs.declared.seat.Seat.{Seat}
use Rattle.totals.specs.LookBack.{Game}
use Rattle.totals.specs.Shares.{president_of}

-- this is the one line of all sheets for a round: it is a company's, in its president's sheet
pub record IsOneLine (file : List ℕ) (round : Round) (by : Operator) (line : Numbered) : Type 0 where
  pub before : (seat : ℕ) → (parts_for file round seat).before ≡ []
  pub own : company_orders_for file round by.president.0 by.company ≡ line ∷ []
  pub others : (other : Company) → same_company other by.company ≡ false → (seat : ℕ)
      → company_orders_for file round seat other ≡ []

-- a company without orders has its turn as in a file without a sheet
orders_so : (file : List ℕ) (round any : Round) (company : Company) (turn : TurnState) (president : Option Seat)
    (new : TurnState) → ((seat : ℕ) → company_orders_for file round seat company ≡ [])
    → CompanyOrdersLead [] any company turn president new → CompanyOrdersLead file round company turn president new
orders_so file round any company turn None new none leads = leads
orders_so file round any company turn (Some seat) new none leads =
    subst (λ (lines : List Numbered). LinesLead (record { company = company; president = seat }) turn lines new)
    (no_orders any seat.0 company ∙ sym (none seat.0)) leads

end_so : (file : List ℕ) (round any : Round) (company : Company) (game : Game) (president : Option Seat) (new : Game)
    → ((seat : ℕ) → company_orders_for file round seat company ≡ [])
    → CompanyOrdersEnd [] any company game president new → CompanyOrdersEnd file round company game president new
end_so file round any company game None new none ends = ends
end_so file round any company game (Some seat) new none ends =
    subst (λ (lines : List Numbered). EndLeads (record { company = company; president = seat }) lines game new)
    (no_orders any seat.0 company ∙ sym (none seat.0)) ends

turn_so : (file : List ℕ) (round any : Round) (company : Company) (old new : Game)
    → ((seat : ℕ) → company_orders_for file round seat company ≡ []) → IsCompanyTurn [] any company old new
    → IsCompanyTurn file round company old new
turn_so file round any company old new none turn =
    record {
      last = turn.last;
      orders =
          orders_so file round any company (begun old company) (president_of old.events company) turn.last none turn.orders;
      after =
          end_so file round any company (withheld_if_unpaid company turn.last).game (president_of old.events company) new
          none turn.after;
    }

-- what is found is one thing
one_found : {A : Type 0} (found : Option A) (a b : A) → found ≡ Some a → found ≡ Some b → a ≡ b
one_found found a b first second = cc

-- and it is not nothing
some_found : {A : Type 0} (found : Option A) (a : A) → found ≡ None → found ≡ Some a → ⊥
some_found found a none some = cc

-- what is added to a game is added to its list
pub by_added : {old new : Game} → OnlyAdds old new → GoesOn old.events new.events
by_added {old} {new} adds = record { more = adds.more; longer = ap (λ (game : Game). game.events) adds.added }

module _ (file : List ℕ) (round : Round) (by : Operator) (line : Numbered) (one : IsOneLine file round by line) where
  -- the turns that are told of other companies are their turns in play
  turns_so : (before : List Company) (old new : AheadState) → old.drafter ≡ None → is_among by.company before ≡ false
      → HaveTurns before old new → TakeTurns file round before old.game new.game
  turns_so [] old new none apart turns = ap (λ (ahead : AheadState). ahead.game) turns
  turns_so (other ∷ others) old new none apart turns =
      let parts = or_parts (same_company other by.company) (is_among by.company others) apart in
      let told : IsCompanyTurn [] old.round other old.game turns.0.game =
      subst (λ (drafter : Option Seat). IsCompanyTurn (file_of old.file (president_of old.game.events other) drafter)
      old.round other old.game turns.0.game) none turns.2.turn in
      let turn : TakesTurn file round other old.game turns.0.game =
      record {
        is_next = turns.1;
        turn = turn_so file round old.round other old.game turns.0.game (one.others other parts.0) told;
      } in (
        turns.0.game,
        turn,
        turns_so others turns.0 new (ap (λ (ahead : AheadState). ahead.drafter) turns.2.same ∙ none)
            parts.1 turns.3,
      )

  -- the round begins as it is told
  opened_so : (any : List ℕ) (old : Game) → opened_ahead any None round old ≡ operating_round_opened file round old
  opened_so any old =
      ap (λ (events : List Event). revenues_recorded (record { seats = old.seats; events = events }))
      (sym (none_standing after_operating_standing_line file round (old.events ++ event.Round round ∷ []) 0 old.seats
      (λ k from within. one.before k)))

-- the turns of an operating round from a company's turn on
pub record FromTurn (file : List ℕ) (round : Round) (company : Company) (mid turned : Game) : Type 0 where
  pub after : Game
  pub turn : IsCompanyTurn file round company mid after
  pub rest : List Company
  pub later : TakeTurns file round rest after turned

module _ (once : OneCompanyTurn) (file : List ℕ) (round : Round) where
  -- the turns of a round go the way of some of them, up to where a company comes next, and then it has its turn
  pub from_turn : (before companies : List Company) (company : Company) (old mid turned : Game)
      → TakeTurns file round before old mid → next_company mid.events ≡ Some company
      → TakeTurns file round companies old turned → next_company turned.events ≡ None
      → FromTurn file round company mid turned
  from_turn [] [] company old mid turned first is_next all over =
      absurd (some_found (next_company old.events) company
      (ap (λ (game : Game). next_company game.events) all ∙ over)
      (ap (λ (game : Game). next_company game.events) first ∙ is_next))
  from_turn [] (other ∷ others) company old mid turned first is_next all over =
      let same : other ≡ company =
      one_found (next_company old.events) other company all.1.is_next
      (ap (λ (game : Game). next_company game.events) first ∙ is_next) in
      let turn : IsCompanyTurn file round company old all.0 =
      subst (λ (c : Company). IsCompanyTurn file round c old all.0) same all.1.turn in
      record {
        after = all.0;
        turn = subst (λ (game : Game). IsCompanyTurn file round company game all.0) first turn;
        rest = others;
        later = all.2;
      }
  from_turn (one ∷ ones) [] company old mid turned first is_next all over =
      absurd (some_found (next_company old.events) one
      (ap (λ (game : Game). next_company game.events) all ∙ over) first.1.is_next)
  from_turn (one ∷ ones) (other ∷ others) company old mid turned first is_next all over =
      let same : other ≡ one = one_found (next_company old.events) other one all.1.is_next first.1.is_next in
      let turn : IsCompanyTurn file round one old all.0 =
      subst (λ (c : Company). IsCompanyTurn file round c old all.0) same all.1.turn in
      let there : all.0 ≡ first.0 = once file round one old all.0 first.0 turn first.1.turn in
      from_turn ones others company first.0 mid turned first.2 is_next
      (subst (λ (game : Game). TakeTurns file round others game turned) there all.2) over

module _ (adds : TurnOnlyAdds) (file : List ℕ) (round : Round) where
  -- turns only add events
  pub by_turns : (companies : List Company) (old new : Game) → TakeTurns file round companies old new
      → GoesOn old.events new.events
  by_turns [] old new turns = subst (λ (game : Game). GoesOn old.events game.events) turns stays
  by_turns (company ∷ others) old new turns =
      by_added (adds file round company old turns.0 turns.1.turn) ⨾ by_turns others turns.0 new turns.2

-- the list at the end of a round goes on after the one line of a company's orders, and after the end
-- of its turn
pub record FirstLineStands (by : Operator) (turn : TurnState) (line : Numbered) (order : Order) (events : List Event)
    : Type 0 where
  pub next : TurnState
  pub leads : OrderLeads by turn line order next
  pub stands : GoesOn next.game.events events
  pub ended : Game
  pub ends : EndLeads by (line ∷ []) (withheld_if_unpaid by.company next).game ended
  pub later : GoesOn ended.events events

-- a line without a condition leads where its order does
by_order : (by : Operator) (turn : TurnState) (number : ℕ) (its : Order) (new : TurnState)
    → LineLeads by turn (line_at number its) new → OrderLeads by turn (line_at number its) its new
by_order by turn number its new leads =
    subst (λ (held : Bool). AskedLeads by turn (line_at number its) its held new) (and-false (is_ruled_there its)) leads

-- the turn goes on after its one line
module _ (file : List ℕ) (round : Round) (by : Operator) (old new : Game)
    (presides : president_of old.events by.company ≡ Some by.president) (turn : IsCompanyTurn file round by.company old new) where
  pub from_line : (number : ℕ) (its : Order)
      → company_orders_for file round by.president.0 by.company ≡ line_at number its ∷ []
      → FirstLineStands by (begun old by.company) (line_at number its) its new.events
  from_line number its own =
      let line = line_at number its in
      let led : CompanyOrdersLead file round by.company (begun old by.company) (Some by.president) turn.last =
      subst (λ (president : Option Seat). CompanyOrdersLead file round by.company (begun old by.company) president turn.last)
      presides turn.orders in
      let lines : LinesLead by (begun old by.company) (line ∷ []) turn.last =
      subst (λ (lines : List Numbered). LinesLead by (begun old by.company) lines turn.last) own led in
      let paid : OnlyAdds turn.last.game (withheld_if_unpaid by.company turn.last).game =
      of_withheld_if_unpaid by.company (λ (a b : TurnState). OnlyAdds a.game b.game)
      (of_steps by.company OnlyAdds (adds_by by.company)) turn.last in
      let ended : OnlyAdds (withheld_if_unpaid by.company turn.last).game new =
      of_orders_end by.company OnlyAdds (adds_by by.company) more_adds file round
      (withheld_if_unpaid by.company turn.last).game (president_of old.events by.company) new turn.after in
      let its_end : CompanyOrdersEnd file round by.company (withheld_if_unpaid by.company turn.last).game
      (Some by.president) new =
      subst (λ (president : Option Seat). CompanyOrdersEnd file round by.company
      (withheld_if_unpaid by.company turn.last).game president new) presides turn.after in
      record {
        next = lines.0;
        leads = by_order by (begun old by.company) number its lines.0 lines.1;
        stands =
            subst (λ (last : TurnState). GoesOn lines.0.game.events last.game.events) (sym lines.2) stays
            ⨾ by_added paid ⨾ by_added ended;
        ended = new;
        ends =
            subst (λ (last : TurnState). EndLeads by (line ∷ []) (withheld_if_unpaid by.company last).game new) lines.2
            (subst (λ (some : List Numbered). EndLeads by some (withheld_if_unpaid by.company turn.last).game new) own its_end);
        later = stays;
      }

-- who is looked at stays so
drafter_stays : (before : List Company) (old new : AheadState) → HaveTurns before old new → new.drafter ≡ old.drafter
drafter_stays [] old new turns = ap (λ (ahead : AheadState). ahead.drafter) (sym turns)
drafter_stays (company ∷ others) old new turns =
    drafter_stays others turns.0 new turns.3 ∙ ap (λ (ahead : AheadState). ahead.drafter) turns.2.same

-- the head of a company's orders is that of its turn
pub record IsHead (orders : OrdersState) (company : Company) (mid : Game) : Type 0 where
  pub turn : orders.turn ≡ begun mid company
  pub own : orders.by.company ≡ company

pub is_head : (told : List ℕ) (round : Round) (company : Company) (orders : OrdersState) (old : Game)
    → (ahead : IsAhead company (opened_state told None round old) (AtOrders orders))
    → IsHead orders company ahead.mid.game
is_head told round company orders old ahead =
    let by : Operator = record { company = company; president = ahead.led.0 } in
    let mid : AheadState = ahead.mid in
    let behind = ahead.led.2 in
    let led : LinesLead by (begun mid.game company) [] orders.turn =
    subst (λ (drafter : Option Seat). LinesLead by (begun mid.game company) (orders_of mid.file drafter mid.round by) orders.turn)
    (drafter_stays ahead.taken.before (opened_state told None round old) mid ahead.taken.turns) behind.turn in
    record { turn = led; own = ap (λ (o : Operator). o.company) behind.its }

-- so it is at the start
pub starts : (orders : OrdersState) (company : Company) (mid : Game) → IsHead orders company mid
    → orders.turn ≡ turn_state orders.turn.game at_start
starts orders company mid head =
    head.turn ∙ ap (λ (turn : TurnState). turn_state turn.game at_start) (sym head.turn)

-- play comes to the head of a company's orders, and goes on after their first line
pub record PlayReaches (orders : OrdersState) (number : ℕ) (its : Order) (round : Round) (old new : Game) : Type 0 where
  pub heading : GoesOn (old.events ++ event.Round round ∷ []) orders.turn.game.events
  pub line : FirstLineStands orders.by orders.turn (line_at number its) its new.events

pub play_reaches : OneCompanyTurn → TurnOnlyAdds → (told file : List ℕ) (round : Round) (company : Company)
    (orders : OrdersState) (old new : Game) (number : ℕ) (its : Order)
    → IsAhead company (opened_state told None round old) (AtOrders orders)
    → IsOneLine file round orders.by (line_at number its) → IsOperatingRound file round old new
    → PlayReaches orders number its round old new
play_reaches once adds told file round company orders old new number its ahead one played =
    let by : Operator = record { company = company; president = ahead.led.0 } in
    let mid : Game = ahead.mid.game in
    let behind = ahead.led.2 in
    let start : AheadState = opened_state told None round old in
    let alone : IsOneLine file round by (line_at number its) =
    subst (λ (o : Operator). IsOneLine file round o (line_at number its)) behind.its one in
    let opened : opened_ahead told None round old ≡ operating_round_opened file round old =
    opened_so file round by (line_at number its) alone told old in
    let first : TakeTurns file round ahead.taken.before (operating_round_opened file round old) mid =
    subst (λ (game : Game). TakeTurns file round ahead.taken.before game mid) opened
    (turns_so file round by (line_at number its) alone ahead.taken.before start ahead.mid refl ahead.taken.others
    ahead.taken.turns) in
    let from = from_turn once file round ahead.taken.before played.turns.companies company
    (operating_round_opened file round old) mid played.turned first ahead.is_next played.turns.turns
    played.turns.over_then in
    let line : FirstLineStands by (begun mid company) (line_at number its) its from.after.events =
    from_line file round by mid from.after ahead.led.1 from.turn number its alone.own in
    let led = (is_head told round company orders old ahead).turn in
    let paid : GoesOn (old.events ++ event.Round round ∷ []) (opened_ahead told None round old).events =
    by_revenues old.seats (old.events ++ event.Round round ∷ []) privates in
    let heading : GoesOn (old.events ++ event.Round round ∷ []) (begun mid company).game.events =
    subst (λ (game : Game). GoesOn (old.events ++ event.Round round ∷ []) game.events) opened paid
    ⨾ by_turns adds file round ahead.taken.before (operating_round_opened file round old) mid first
    ⨾ by_added (of_home company OnlyAdds (adds_by company) mid) in
    let to_end : GoesOn from.after.events new.events =
    subst (λ (game : Game). GoesOn from.after.events game.events) (sym played.after)
    (by_turns adds file round from.rest from.after played.turned from.later
    ⨾ by_events played.turned.events (left_events file round played.turned.events (range_with_len 0 old.seats))) in
    let whole : FirstLineStands by (begun mid company) (line_at number its) its new.events =
    record {
      next = line.next;
      leads = line.leads;
      stands = line.stands ⨾ to_end;
      ended = line.ended;
      ends = line.ends;
      later = line.later ⨾ to_end;
    } in
    record {
      heading = subst (λ (turn : TurnState). GoesOn (old.events ++ event.Round round ∷ []) turn.game.events) (sym led) heading;
      line =
          subst (λ (o : Operator). FirstLineStands o orders.turn (line_at number its) its new.events) (sym behind.its)
          (subst (λ (turn : TurnState). FirstLineStands by turn (line_at number its) its new.events) (sym led) whole);
    }
