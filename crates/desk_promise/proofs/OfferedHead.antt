-- Play comes with an offer to the head that is told without it, but for the OFFER, if no company before it must buy a train.
use Rattle.std.proofs.Common.{◌≡◌, ℕ, ◌+◌, ◌<◌, Bool, true, false, List, [], ◌∷◌, ◌++◌, length, Option, Some, None}
use Rattle.std.proofs.Common.{pos, append-nil, refl, sym, ap, subst, ◌∙◌, inl, inr, arith}
use Rattle.std.specs.Prelude.{if◌then◌else◌, unwrap_or}
use Rattle.std.proofs.lemmas.Bool.{cases_eq}
use Rattle.desk_promise.proofs.CompanyPromise.{Laws}
use Rattle.desk_promise.proofs.LineFiles.{has_sheets}
use Rattle.desk_promise.proofs.OrdersReached.{is_head}
use Rattle.desk_promise.proofs.StandingSheets.{one_standing_line, standing_lines_fit}
use Rattle.desk_promise.proofs.StandingTold.{operating_ruled}
use Rattle.desk_promise.proofs.TurnPromise.{alone}
use Rattle.desk_promise.proofs.TurnSheets.{line_at}
use Rattle.desk_promise.proofs.WithOffer.{Inserted, WithOffer, as_offered, due_too, home_too, next_same, president_same}
use Rattle.desk_promise.proofs.WithOffer.{revenues_too, withheld_too}
use Rattle.desk_promise.specs.CompanyLines.{IsHeadAwaited}
use Rattle.desk_promise.specs.LineFile.{HasSheets}
use Rattle.desk_promise.specs.OfferFile.{offer_of_one}
use Rattle.desk_promise.specs.OfferedRows.{IsHeadOffered, IsOfferMade, IsSameHead, NoneIsForced, OfferedHeadsAreReached}
use Rattle.desk_promise.specs.StandingRows.{standing_file}
use Rattle.events.specs.declared.event.Event.{Event}
use Rattle.events.specs.declared.event.Event.TheVariants as event
use Rattle.events.specs.declared.ruling.Refusal.{Refusal}
use Rattle.events.specs.declared.ruling.Ruling.{Ruling}
use Rattle.forced_purchase.specs.declared.operator.Operator.{Operator}
use Rattle.foresight.specs.Ahead.{AheadState, OrdersState, opened_state, with_game}
use Rattle.foresight.specs.Draft.{after_standing_of, file_of, is_drafters, opened_ahead, orders_of}
use Rattle.foresight.specs.Orders.{HaveTurns}
use Rattle.forced_purchase.specs.Raise.{raises_in}
use Rattle.history.specs.Record.{after_revenues}
use Rattle.moves.specs.ConsentLaws.{IsOffered, offer_line}
use Rattle.moves.specs.RowLaws.{StandingRowsAreRuled, rule_told}
use Rattle.moves.specs.Rows.{answer_of}
use Rattle.moves.specs.declared.row.Answer.TheVariants.{Obeyed}
use Rattle.operating.proofs.NoSheet.{no_orders}
use Rattle.operating.specs.CompanyOrders.{LinesLead}
use Rattle.operating.specs.Pay.{withheld_if_unpaid}
use Rattle.operating.specs.Progress.{at_start}
use Rattle.operating.specs.Turn.{CompanyOrdersEnd, CompanyOrdersLead, IsCompanyTurn, begun}
use Rattle.operating.specs.TurnEnd.{EndLeads, IsDue}
use Rattle.operating.specs.TurnState.{TurnState}
use Rattle.order_grammar.specs.declared.order.Offer.{Offer}
use Rattle.order_grammar.specs.declared.order.Order.TheVariants.{Play}
use Rattle.order_grammar.specs.declared.play.PlayOrder.TheVariants as play
use Rattle.purchases.specs.Discard.{is_president}
use Rattle.purchases.specs.Standing.{after_operating_standing_line, operating_standing_judgement}
use Rattle.rounds.specs.Play.{Between}
use Rattle.sheets.specs.CompanyOrders.{company_orders_for, company_orders_in}
use Rattle.sheets.specs.File.{version_of}
use Rattle.sheets.specs.Part.{Numbered, SheetParts, parts_for, parts_of_sheet}
use Rattle.sheets.specs.Taken.{after_each}
use Rattle.tables.specs.Roster.{privates}
use Rattle.tables.specs.Seat.{seat_at}
use Rattle.tables.specs.declared.roster.Company.{Company}
use Rattle.tables.specs.declared.round.Round.{Round}
use Rattle.tables.specs.declared.round.Round.TheVariants.{Operating}
use Rattle.tables.specs.declared.seat.Seat.{Seat}
use Rattle.totals.specs.LookBack.{Game}
use Rattle.totals.specs.Shares.{president_of}
use Rattle.turns.specs.Ruling.{judged}

-- an answer without a rule
rule_none : (broken : Option Refusal) → answer_of (pos 0) broken ≡ Obeyed (pos 0) → broken ≡ None
rule_none None told = refl
rule_none (Some rule) told = ap rule_told told

-- a list with one more event has one
not_empty : (events : List Event) (its : Event) → 0 < length (events ++ its ∷ [])
not_empty [] its = omega arith
not_empty (first ∷ events) its = omega arith

-- the game after a turn without orders in which no train must be bought
abbrev after_turn : Game → Company → Game
after_turn game company = (withheld_if_unpaid company (begun game company)).game

after_turn_too : {giver : Seat} {sale : Offer} {old new : Game} → WithOffer giver sale old new → (company : Company)
    → WithOffer giver sale (after_turn old company) (after_turn new company)
after_turn_too is company = withheld_too (home_too is company) company at_start.runs.revenue

-- no sheet of a file has orders of a company for a round
abbrev HasNone : List ℕ → Round → Company → Type 0
HasNone file round company = (seat : ℕ) → company_orders_for file round seat company ≡ []

-- a turn that is told without orders has that game at its end
no_lines : (file : List ℕ) (round : Round) (company : Company) (turn : TurnState) (president : Option Seat) (new : TurnState)
    → HasNone file round company → CompanyOrdersLead file round company turn president new → new ≡ turn
no_lines file round company turn None new none leads = leads
no_lines file round company turn (Some seat) new none leads =
    subst (λ (lines : List Numbered). LinesLead (record { company = company; president = seat }) turn lines new)
    (none seat.0) leads

not_bought : (file : List ℕ) (round : Round) (company : Company) (game : Game) (president : Option Seat) (new : Game)
    → HasNone file round company → (IsDue game company → ⊥) → CompanyOrdersEnd file round company game president new
    → new ≡ game
not_bought file round company game None new none free ends = ends
not_bought file round company game (Some seat) new none free ends =
    let by : Operator = record { company = company; president = seat } in
    let its : EndLeads by [] game new =
    subst (λ (lines : List Numbered). EndLeads by lines game new) (none seat.0) ends in
    elim its [
      | inl due ↦ absurd (free due.0)
      | inr free_too ↦ free_too.1
    ]

module _ (file : List ℕ) (round : Round) (company : Company) (old new : Game) (none : HasNone file round company)
    (turn : IsCompanyTurn file round company old new)
    (free : IsDue (withheld_if_unpaid company turn.last).game company → ⊥) where
  last_is : (withheld_if_unpaid company turn.last).game ≡ after_turn old company
  last_is =
      ap (λ (last : TurnState). (withheld_if_unpaid company last).game)
      (no_lines file round company (begun old company) (president_of old.events company) turn.last none turn.orders)

  turn_told : new ≡ after_turn old company
  turn_told =
      not_bought file round company (withheld_if_unpaid company turn.last).game (president_of old.events company) new none free
      turn.after
      ∙ last_is

  still_free : IsDue (after_turn old company) company → ⊥
  still_free = subst (λ (game : Game). IsDue game company → ⊥) last_is free

-- a turn without orders in which no train must be bought leads there
lines_none : (file : List ℕ) (round : Round) (company : Company) (turn : TurnState) (president : Option Seat)
    → HasNone file round company → CompanyOrdersLead file round company turn president turn
lines_none file round company turn None none = refl
lines_none file round company turn (Some seat) none =
    subst (λ (lines : List Numbered). LinesLead (record { company = company; president = seat }) turn lines turn)
    (sym (none seat.0)) refl

ends_so : (file : List ℕ) (round : Round) (company : Company) (game : Game) (president : Option Seat)
    → HasNone file round company → (IsDue game company → ⊥)
    → CompanyOrdersEnd file round company game president game
ends_so file round company game None none free = refl
ends_so file round company game (Some seat) none free =
    subst (λ (lines : List Numbered). EndLeads (record { company = company; president = seat }) lines game game)
    (sym (none seat.0)) (inr (free, refl))

turn_there : (file : List ℕ) (round : Round) (company : Company) (old : Game)
    → HasNone file round company → (IsDue (after_turn old company) company → ⊥)
    → IsCompanyTurn file round company old (after_turn old company)
turn_there file round company old none free =
    record {
      last = begun old company;
      orders = lines_none file round company (begun old company) (president_of old.events company) none;
      after = ends_so file round company (after_turn old company) (president_of old.events company) none free;
    }

-- the turns that are told go on alike with the offer
record Follows (giver : Seat) (sale : Offer) (before : List Company) (told : Game) (start : AheadState) : Type 0 where
  game : Game
  turns : HaveTurns before start (with_game start game)
  same : WithOffer giver sale told game

module _ (giver : Seat) (sale : Offer) (file : List ℕ) (round : Round)
    (none : (president : Option Seat) (seat : ℕ) (company : Company)
    → company_orders_for (file_of file president (Some giver)) round seat company ≡ []) where
  -- the round with the offer, at this game
  abbrev at_game : Game → AheadState
  at_game game = record { file = file; drafter = Some giver; round = round; game = game }

  follows : (before : List Company) (old new : AheadState) → old.drafter ≡ None → (turns : HaveTurns before old new)
      → NoneIsForced before old new turns → (game : Game) → WithOffer giver sale old.game game
      → Follows giver sale before new.game (at_game game)
  follows [] old new undrafted turns free game same =
      record {
        game = game;
        turns = refl;
        same = subst (λ (ahead : AheadState). WithOffer giver sale ahead.game game) turns same;
      }
  follows (company ∷ others) old new undrafted turns free game same =
      let mid : AheadState = turns.0 in
      let its_file : List ℕ = file_of old.file (president_of old.game.events company) old.drafter in
      let nothing : HasNone its_file old.round company =
      subst (λ (drafter : Option Seat). HasNone (file_of old.file (president_of old.game.events company) drafter) old.round
      company) (sym undrafted) (λ seat. no_orders old.round seat company) in
      let next_game : Game = after_turn game company in
      let there : WithOffer giver sale (after_turn old.game company) next_game = after_turn_too same company in
      let next_same_game : WithOffer giver sale mid.game next_game =
      subst (λ (g : Game). WithOffer giver sale g next_game)
      (sym (turn_told its_file old.round company old.game mid.game nothing turns.2.turn free.0)) there in
      let not_due : IsDue next_game company → ⊥ =
      λ (due : IsDue next_game company).
      still_free its_file old.round company old.game mid.game nothing turns.2.turn free.0 (due_too there company due) in
      let rest = follows others mid new (ap (λ (ahead : AheadState). ahead.drafter) turns.2.same ∙ undrafted) turns.3 free.1
      next_game next_same_game in
      record {
        game = rest.game;
        turns = (
          at_game next_game,
          next_same same.list ∙ turns.1,
          record {
            same = refl;
            turn = turn_there (file_of file (president_of game.events company) (Some giver)) round company game
                (λ seat. none (president_of game.events company) seat company) not_due;
          },
          rest.turns,
        );
        same = rest.same;
      }

-- the head with the offer
module _ (laws : Laws) (standing : StandingRowsAreRuled) (file : List ℕ) (last : Between) (set number : ℕ)
    (company : Company) (orders : OrdersState)
    (awaited : IsHeadAwaited file last (Operating set number) company orders)
    (free : NoneIsForced awaited.ahead.taken.before (opened_state file None (Operating set number) last.game)
    awaited.ahead.mid awaited.ahead.taken.turns) (giver : Seat) (sale : Offer)
    (its : IsOfferMade file last (Operating set number) giver sale)
    (apart : giver.0 ≡ orders.by.president.0 → ⊥) where
  abbrev round : Round
  round = Operating set number

  abbrev told : List ℕ
  told = standing_file file round giver (play.Offer sale)

  abbrev there : List Event
  there = last.game.events ++ event.Round round ∷ []

  told_has : HasSheets file told round giver (offer_of_one sale)
  told_has =
      has_sheets laws.spelt laws.is_read file awaited.accepted awaited.ended round awaited.of_line giver its.giving
      (offer_of_one sale) (standing_lines_fit laws.spelt laws.is_read (play.Offer sale) its.small) its.accepted

  told_givers : parts_for told round giver.0 ≡ record { before = line_at 1 (Play (play.Offer sale)) ∷ []; opened = [] }
  told_givers =
      ap (λ (sheet : Option (List (List ℕ))). parts_of_sheet (version_of told) round (unwrap_or sheet [])) told_has.own
      ∙ one_standing_line laws.is_read laws.again laws.plain (version_of told) round (play.Offer sale) its.small

  none_told : (seat : ℕ) (any : Company) → company_orders_for told round seat any ≡ []
  none_told seat any =
      elim (cases_eq seat giver.0) [
        | inl same ↦ ap (λ (n : ℕ). company_orders_for told round n any) same
            ∙ ap (λ (parts : SheetParts). company_orders_in any parts.opened) told_givers
        | inr differs ↦ ap (λ (parts : SheetParts). company_orders_in any parts.opened)
            (alone file told round giver (offer_of_one sale) told_has seat differs)
      ]

  none_there : (president : Option Seat) (seat : ℕ) (any : Company)
      → company_orders_for (file_of told president (Some giver)) round seat any ≡ []
  none_there president seat any =
      elim (is_president president giver) as (λ (b : Bool). company_orders_for (if b then told else []) round seat any ≡ []) [
        | true ↦ none_told seat any
        | false ↦ no_orders round seat any
      ]

  -- the OFFER is obeyed right below ROUND
  abbrev obeyed_offer : List Event
  obeyed_offer = there ++ offer_line giver 1 None sale ∷ []

  standing_is : after_standing_of told (Some giver) round there ≡ obeyed_offer
  standing_is =
      ap (λ (parts : SheetParts). after_each (after_operating_standing_line (seat_at giver.0)) there parts.before) told_givers
      ∙ ap (λ (ruling : Ruling). there ++ event.Ruled giver 1 ruling ∷ [])
      (operating_ruled standing last.game.events giver set number (play.Offer sale) its.small
      ∙ ap (judged None (Play (play.Offer sale)))
      (rule_none (operating_standing_judgement last.game.events giver (Play (play.Offer sale))) its.may))

  inserted : Inserted giver sale there obeyed_offer
  inserted =
      record {
        before = there;
        after = [];
        number = 1;
        condition = None;
        some = not_empty last.game.events (event.Round round);
        same_round = tt;
        old_is = sym (append-nil there);
        new_is = refl;
      }

  opened_same : WithOffer giver sale (opened_state file None round last.game).game (opened_ahead told (Some giver) round last.game)
  opened_same =
      record {
        seats = refl;
        list =
            subst (λ (events : List Event). Inserted giver sale (after_revenues last.game.seats there privates)
            (after_revenues last.game.seats events privates)) (sym standing_is)
            (revenues_too last.game.seats privates there obeyed_offer inserted);
      }

  abbrev start : AheadState
  start = opened_state told (Some giver) round last.game

  followed : Follows giver sale awaited.ahead.taken.before awaited.ahead.mid.game start
  followed =
      follows giver sale told round none_there awaited.ahead.taken.before (opened_state file None round last.game)
      awaited.ahead.mid refl awaited.ahead.taken.turns free (opened_ahead told (Some giver) round last.game) opened_same

  abbrev by : Operator
  by = record { company = company; president = awaited.ahead.led.0 }

  -- the company is at the start of its orders
  pub offered : OrdersState
  offered =
      record {
        file = told;
        drafter = Some giver;
        round = round;
        by = orders.by;
        turn = begun followed.game company;
        raises = [];
      }

  nothing_drafted : orders_of told (Some giver) round by ≡ []
  nothing_drafted =
      elim (is_drafters (Some giver) by.president) as (λ (b : Bool).
      (if b then company_orders_for told round by.president.0 by.company else []) ≡ []) [
        | true ↦ none_told by.president.0 by.company
        | false ↦ refl
      ]

  pub head_offered : IsHeadOffered file last round company giver sale offered
  unfolding offered
  head_offered =
      record {
        accepted = its.accepted;
        small = its.small;
        giving = its.giving;
        ahead = record {
          mid = with_game start followed.game;
          taken = record {
            before = awaited.ahead.taken.before;
            turns = followed.turns;
            others = awaited.ahead.taken.others;
          };
          is_next = next_same followed.same.list ∙ awaited.ahead.is_next;
          led = (
            awaited.ahead.led.0,
            president_same followed.same.list company ∙ awaited.ahead.led.1,
            record {
              file = refl;
              drafter = refl;
              round = refl;
              its = awaited.ahead.led.2.its;
              turn =
                  subst (λ (lines : List Numbered). LinesLead by (begun followed.game company) lines
                  (begun followed.game company)) (sym nothing_drafted) refl;
              raises = sym (ap raises_in nothing_drafted);
            },
          );
        };
        apart = apart;
      }

  head_is : orders.turn ≡ begun awaited.ahead.mid.game company
  head_is = (is_head file round company orders last.game awaited.ahead).turn

  own : orders.by.company ≡ company
  own = (is_head file round company orders last.game awaited.ahead).own

  pub same_head : IsSameHead giver sale orders offered
  unfolding offered
  same_head =
      record {
        by = refl;
        game =
            subst (λ (turn : TurnState). IsOffered giver sale turn.game offered.turn.game) (sym head_is)
            (as_offered (home_too followed.same company));
        withheld =
            subst (λ (c : Company). IsOffered giver sale (withheld_if_unpaid c orders.turn).game
            (withheld_if_unpaid c offered.turn).game) (sym own)
            (subst (λ (turn : TurnState). IsOffered giver sale (withheld_if_unpaid company turn).game
            (withheld_if_unpaid company offered.turn).game) (sym head_is)
            (as_offered (after_turn_too followed.same company)));
      }

pub offered_heads_reached : Laws → StandingRowsAreRuled → OfferedHeadsAreReached
offered_heads_reached laws standing file last set number company orders awaited free giver sale its apart =
    record {
      offered = offered laws standing file last set number company orders awaited free giver sale its apart;
      head = head_offered laws standing file last set number company orders awaited free giver sale its apart;
      same = same_head laws standing file last set number company orders awaited free giver sale its apart;
    }
