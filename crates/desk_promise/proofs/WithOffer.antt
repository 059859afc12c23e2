-- A list of events, and the same with an OFFER that was obeyed since the last round began, go on alike.
use Rattle.std.proofs.Common.{◌≡◌, ℕ, ◌+◌, ◌<◌, ◌≤◌, Bool, true, false, List, [], ◌∷◌, ◌++◌, length}
use Rattle.std.proofs.Common.{Option, Some, None, ℤ, pos, ◌+ℤ◌, unwrap_or, is_some, option_map, append_assoc, refl, sym, ap}
use Rattle.std.proofs.Common.{subst, ◌∙◌, arith}
use Rattle.std.specs.Int.Signed.{le_z, lt_z}
use Rattle.std.specs.Option.{option_flatten, option_or}
use Rattle.std.specs.Prelude.{◌&&◌, ◌||◌, if◌then◌else◌, nat_lt, not}
use Rattle.std.specs.List.{filter_map, find, list_any}
use Rattle.std.proofs.lemmas.Bool.Decides.{nat_tests}
use Rattle.std.proofs.lemmas.List.Elements.{filter_map-append}
use Rattle.std.proofs.lemmas.List.Folds.{list_any-append}
use Rattle.board_state.specs.MapState.{map_state_of, position_of}
use Rattle.events.specs.Event.{floated_by, operated_by, round_begun_by, says_bankrupt, says_broken, square_set, tile_laid}
use Rattle.events.specs.Event.{token_placed}
use Rattle.events.specs.declared.event.Event.{Event}
use Rattle.events.specs.declared.event.Event.TheVariants as event
use Rattle.events.specs.declared.event.Holder.{Holder}
use Rattle.events.specs.declared.event.Party.{Party}
use Rattle.events.specs.declared.event.Party.TheVariants as party
use Rattle.events.specs.declared.ruling.Ruling.{Ruling}
use Rattle.events.specs.declared.ruling.Ruling.TheVariants as ruling
use Rattle.history.specs.Record.{after_revenues, breaks, paid_to_owner, with_broken}
use Rattle.legal_runs.specs.TwoTrain.{CanRun}
use Rattle.map_tables.specs.Home.{home_of}
use Rattle.map_tables.specs.OnMap.{has_token}
use Rattle.map_tables.specs.Place.{place_of}
use Rattle.map_tables.specs.declared.lay.Lay.{Lay}
use Rattle.map_tables.specs.declared.place.Place.{Place}
use Rattle.market.specs.Moves.{square_left_of}
use Rattle.market.specs.OperatingOrder.{first_idle, leads, less_or, next_company, operates, operates_before, operating_order_of}
use Rattle.market.specs.OperatingOrder.{operating_rank, rank_on, with_companies}
use Rattle.market.specs.Token.{moved_from, same_square}
use Rattle.moves.proofs.OneMoreRuling.{same_cash, same_owner, same_phase, same_president, trains_alike}
use Rattle.moves.specs.ConsentLaws.{IsOffered, NoRoundBegins, offer_line}
use Rattle.operating.specs.HomeToken.{has_home_token, with_home}
use Rattle.operating.specs.MapState.{map_state_now}
use Rattle.operating.specs.Pay.{withheld}
use Rattle.operating.specs.TurnEnd.{IsDue}
use Rattle.order_grammar.specs.declared.condition.Condition.{Condition}
use Rattle.order_grammar.specs.declared.order.Offer.{Offer}
use Rattle.order_grammar.specs.declared.order.Order.TheVariants as order
use Rattle.order_grammar.specs.declared.play.PlayOrder.TheVariants as play
use Rattle.tables.specs.Chart.{price_of}
use Rattle.tables.specs.Roster.{companies, revenue_of}
use Rattle.reach.specs.Position.{Position}
use Rattle.tables.specs.Train.{kinds}
use Rattle.tables.specs.declared.rolling_stock.Kind.{Kind}
use Rattle.tables.specs.declared.roster.Company.{Company}
use Rattle.tables.specs.declared.roster.Private.{Private}
use Rattle.tables.specs.declared.seat.Seat.{Seat}
use Rattle.tables.specs.declared.squares.Square.{Square}
use Rattle.totals.proofs.EventAtEnd.{option_or_none}
use Rattle.totals.specs.LookBack.{Game, bankrupt_in, broken_in, cash_of, in_round, last_place_from, last_said, owner_of, with_event}
use Rattle.totals.specs.Operating.{has_operated, lays_of, tokens_of, turn_said}
use Rattle.totals.specs.Trains.{phase_of, trains_held, trains_of_kinds}
use Rattle.totals.specs.Shares.{arrival_of, float_said, is_floated, president_of, square_of, square_said}

-- a list, and the same with the OFFER of a seat obeyed at some place since its last round began, which is not the first
pub record Inserted (giver : Seat) (sale : Offer) (old new : List Event) : Type 0 where
  pub before : List Event
  pub after : List Event
  pub number : ℕ
  pub condition : Option Condition
  pub some : 0 < length before
  pub same_round : NoRoundBegins after
  pub old_is : old ≡ before ++ after
  pub new_is : new ≡ before ++ offer_line giver number condition sale ∷ after

-- a game, and the same with the OFFER
pub record WithOffer (giver : Seat) (sale : Offer) (old new : Game) : Type 0 where
  pub seats : new.seats ≡ old.seats
  pub list : Inserted giver sale old.events new.events

-- as it is told of an offer
pub as_offered : {giver : Seat} {sale : Offer} {old new : Game} → WithOffer giver sale old new → IsOffered giver sale old new
as_offered {giver} {sale} {old} {new} its =
    record {
      before = its.list.before;
      after = its.list.after;
      number = its.list.number;
      condition = its.list.condition;
      same_round = its.list.same_round;
      game_is = ap (λ (events : List Event). record { seats = old.seats; events = events }) its.list.old_is;
      offered_is =
          ap (λ (seats : ℕ). record { seats = seats; events = new.events }) its.seats
          ∙ ap (λ (events : List Event). record { seats = old.seats; events = events }) its.list.new_is;
    }

-- what an event leaves that says nothing, wherever it is
said_between : {A : Type 0} (before after : List Event) (says : Event → Option A) (its : Event) → says its ≡ None
    → last_said says (before ++ its ∷ after) ≡ last_said says (before ++ after)
said_between [] after says its silent =
    ap (λ earlier. option_or (last_said says after) earlier) silent ∙ option_or_none (last_said says after)
said_between (first ∷ before) after says its silent =
    ap (λ later. option_or later (says first)) (said_between before after says its silent)

any_between : (test : Event → Bool) (its : Event) → test its ≡ false
    → (before after : List Event) → list_any test (before ++ its ∷ after) ≡ list_any test (before ++ after)
any_between test its none before after =
    list_any-append test before (its ∷ after)
    ∙ ap (λ (b : Bool). list_any test before || (b || list_any test after)) none
    ∙ sym (list_any-append test before after)

kept_between : {A : Type 0} (kept : Event → Option A) (its : Event) (before after : List Event)
    → filter_map kept (its ∷ after) ≡ filter_map kept after
    → filter_map kept (before ++ its ∷ after) ≡ filter_map kept (before ++ after)
kept_between kept its before after drops =
    filter_map-append kept before (its ∷ after) ∙ ap (λ list. filter_map kept before ++ list) drops
    ∙ sym (filter_map-append kept before after)

-- a place in the list with one more event at this place
abbrev moved_on : ℕ → ℕ → ℕ
moved_on at place = if nat_lt place at then place else place + 1

keeps_order : (at a b : ℕ) → nat_lt (moved_on at a) (moved_on at b) ≡ nat_lt a b
keeps_order at a b = grind (arith, nat_tests)

-- places found later move on with it
map_or : (f : ℕ → ℕ) (later earlier : Option ℕ)
    → option_or (option_map f later) (option_map f earlier) ≡ option_map f (option_or later earlier)
map_or f None earlier = refl
map_or f (Some place) earlier = refl

moved_if : (there : Bool) (at place other : ℕ) → moved_on at place ≡ other
    → (if there then Some other else None) ≡ option_map (moved_on at) (if there then Some place else None)
moved_if true at place other is = ap (λ (n : ℕ). Some n) (sym is)
moved_if false at place other is = refl

later_by_one : {A : Type 0} (says : Event → Option A) (after : List Event) (n at : ℕ) → at ≤ n
    → last_place_from says (n + 1) after ≡ option_map (moved_on at) (last_place_from says n after)
later_by_one says [] n at within = refl
later_by_one says (first ∷ after) n at within =
    let not_before : moved_on at n ≡ n + 1 = grind (arith, nat_tests, within) in
    ap (λ (later : Option ℕ). option_or later (if is_some (says first) then Some (n + 1) else None))
    (later_by_one says after (n + 1) at (omega (arith, within)))
    ∙ ap (λ (earlier : Option ℕ). option_or (option_map (moved_on at) (last_place_from says (n + 1) after)) earlier)
    (moved_if (is_some (says first)) at n (n + 1) not_before)
    ∙ map_or (moved_on at) (last_place_from says (n + 1) after) (if is_some (says first) then Some n else None)

place_between : {A : Type 0} (says : Event → Option A) (its : Event) → says its ≡ None → (before after : List Event) (n : ℕ)
    → last_place_from says n (before ++ its ∷ after)
    ≡ option_map (moved_on (n + length before)) (last_place_from says n (before ++ after))
place_between {A} says its silent [] after n =
    ap (λ (said : Option A). option_or (last_place_from says (n + 1) after) (if is_some said then Some n else None)) silent
    ∙ option_or_none (last_place_from says (n + 1) after)
    ∙ later_by_one says after n (n + 0) (omega arith)
place_between {A} says its silent (first ∷ before) after n =
    let at : ℕ = n + length (first ∷ before) in
    let same_at : (n + 1) + length before ≡ at = omega arith in
    let stays_put : moved_on at n ≡ n = grind (arith, nat_tests) in
    ap (λ (later : Option ℕ). option_or later (if is_some (says first) then Some n else None))
    (place_between says its silent before after (n + 1)
    ∙ ap (λ (k : ℕ). option_map (moved_on k) (last_place_from says (n + 1) (before ++ after))) same_at)
    ∙ ap (λ (earlier : Option ℕ).
    option_or (option_map (moved_on at) (last_place_from says (n + 1) (before ++ after))) earlier)
    (moved_if (is_some (says first)) at n n stays_put)
    ∙ map_or (moved_on at) (last_place_from says (n + 1) (before ++ after)) (if is_some (says first) then Some n else None)

moved_or_none : (at : ℕ) → 0 < at → (place : Option ℕ)
    → unwrap_or (option_map (moved_on at) place) 0 ≡ moved_on at (unwrap_or place 0)
moved_or_none at some None = grind (arith, nat_tests, some)
moved_or_none at some (Some place) = refl

-- companies are in the same order if their arrivals are
leads_alike : (a b : Option Square) (x y u v : ℕ) → nat_lt u v ≡ nat_lt x y
    → leads (rank_on a u) (rank_on b v) ≡ leads (rank_on a x) (rank_on b y)
leads_alike None None x y u v same =
    ap (λ (t : Bool). less_or 0 0 (less_or 0 0 (less_or 0 0 t))) same
leads_alike None (Some b) x y u v same =
    ap (λ (t : Bool). less_or (price_of b) 0 (less_or b.column 0 (less_or 0 b.row t))) same
leads_alike (Some a) None x y u v same =
    ap (λ (t : Bool). less_or 0 (price_of a) (less_or 0 a.column (less_or a.row 0 t))) same
leads_alike (Some a) (Some b) x y u v same =
    ap (λ (t : Bool). less_or (price_of b) (price_of a) (less_or b.column a.column (less_or a.row b.row t))) same

module _ {giver : Seat} {sale : Offer} {old new : List Event} (is : Inserted giver sale old new) where
  abbrev done : Ruling
  done = ruling.Obeyed is.condition (order.Play (play.Offer sale))

  -- what both lists read alike
  read_same : {A : Type 0} (read : List Event → A)
      → read (is.before ++ offer_line giver is.number is.condition sale ∷ is.after) ≡ read (is.before ++ is.after)
      → read new ≡ read old
  read_same read same = ap read is.new_is ∙ same ∙ ap read (sym is.old_is)

  said_same : {A : Type 0} (says : Event → Option A) → says (offer_line giver is.number is.condition sale) ≡ None
      → last_said says new ≡ last_said says old
  said_same says silent =
      read_same (last_said says)
      (said_between is.before is.after says (offer_line giver is.number is.condition sale) silent)

  cash_same : (seats : ℕ) (whose : Party) → cash_of seats new whose ≡ cash_of seats old whose
  cash_same seats whose =
      read_same (λ events. cash_of seats events whose) (same_cash is.before is.after giver is.number done seats whose)

  owner_same : (private : Private) → owner_of new private ≡ owner_of old private
  owner_same private =
      read_same (λ events. owner_of events private) (same_owner is.before is.after giver is.number done private)

  pub president_same : (company : Company) → president_of new company ≡ president_of old company
  president_same company =
      read_same (λ events. president_of events company) (same_president is.before is.after giver is.number done company)

  square_same : (company : Company) → square_of new company ≡ square_of old company
  square_same company = said_same (λ event. square_said company (square_set event)) refl

  tokens_same : tokens_of new ≡ tokens_of old
  tokens_same =
      read_same tokens_of
      (kept_between token_placed (offer_line giver is.number is.condition sale) is.before is.after refl)

  breaks_same : (seats : ℕ) → breaks seats new ≡ breaks seats old
  breaks_same seats =
      ap (λ (cash : ℤ). le_z cash (pos 0) && not (broken_in new)) (cash_same seats party.Bank)
      ∙ ap (λ (b : Bool). le_z (cash_of seats old party.Bank) (pos 0) && not b)
      (read_same broken_in
      (any_between says_broken (offer_line giver is.number is.condition sale) refl is.before is.after))

  -- the next company is the same
  operates_same : (company : Company) → operates new company ≡ operates old company
  operates_same company =
      ap (λ (said : Option Company). is_some said && is_some (square_of new company))
      (said_same (λ event. float_said company (floated_by event)) refl)
      ∙ ap (λ (square : Option Square). is_floated old company && is_some square) (square_same company)

  arrival_same : (company : Company) → arrival_of new company ≡ moved_on (length is.before) (arrival_of old company)
  arrival_same company =
      let says : Event → Option Square = λ event. square_said company (square_set event) in
      let line : Event = offer_line giver is.number is.condition sale in
      let from_zero : 0 + length is.before ≡ length is.before = omega arith in
      ap (λ (events : List Event). unwrap_or (last_place_from says 0 events) 0) is.new_is
      ∙ ap (λ (place : Option ℕ). unwrap_or place 0) (place_between says line refl is.before is.after 0)
      ∙ ap (λ (at : ℕ). unwrap_or (option_map (moved_on at) (last_place_from says 0 (is.before ++ is.after))) 0) from_zero
      ∙ moved_or_none (length is.before) is.some (last_place_from says 0 (is.before ++ is.after))
      ∙ ap (λ (events : List Event). moved_on (length is.before) (unwrap_or (last_place_from says 0 events) 0)) (sym is.old_is)

  before_same : (a b : Company) → operates_before new a b ≡ operates_before old a b
  before_same a b =
      ap (λ (square : Option Square). leads (rank_on square (arrival_of new a)) (operating_rank new b)) (square_same a)
      ∙ ap (λ (square : Option Square). leads (rank_on (square_of old a) (arrival_of new a)) (rank_on square (arrival_of new b)))
      (square_same b)
      ∙ leads_alike (square_of old a) (square_of old b) (arrival_of old a) (arrival_of old b) (arrival_of new a)
      (arrival_of new b)
      (ap (λ (n : ℕ). nat_lt n (arrival_of new b)) (arrival_same a)
      ∙ ap (λ (n : ℕ). nat_lt (moved_on (length is.before) (arrival_of old a)) n) (arrival_same b)
      ∙ keeps_order (length is.before) (arrival_of old a) (arrival_of old b))

  order_same : operating_order_of new ≡ operating_order_of old
  unfolding operating_order_of
  order_same =
      let which : operates new ≡ operates old = λ i. λ company. operates_same company i in
      let how : operates_before new ≡ operates_before old = λ i. λ a. λ b. before_same a b i in
      ap (λ (test : Company → Bool). with_companies test (operates_before new) [] companies) which
      ∙ ap (λ (test : Company → Company → Bool). with_companies (operates old) test [] companies) how

  operated_same : (company : Company) → has_operated new company ≡ has_operated old company
  operated_same company =
      ap (λ said. is_some (option_flatten said))
      (said_same (in_round (λ event. turn_said company (operated_by event))) refl)

  idle_same : first_idle new ≡ first_idle old
  idle_same =
      let test : (λ (company : Company). not (has_operated new company)) ≡ (λ (company : Company). not (has_operated old company)) =
      λ i. λ company. not (operated_same company i) in
      ap (λ (t : Company → Bool). find t (operating_order_of new)) test
      ∙ ap (λ (list : List Company). find (λ company. not (has_operated old company)) list) order_same

  pub next_same : next_company new ≡ next_company old
  next_same =
      ap (λ (b : Bool). if b then None else first_idle new)
      (read_same bankrupt_in
      (any_between says_bankrupt (offer_line giver is.number is.condition sale) refl is.before is.after))
      ∙ ap (λ (found : Option Company). if bankrupt_in old then None else found) idle_same

-- no round begins with one more event that begins none
none_more : (after : List Event) (its : Event) → NoRoundBegins after → round_begun_by its ≡ None
    → NoRoundBegins (after ++ its ∷ [])
none_more [] its none silent = (silent, tt)
none_more (first ∷ after) its none silent = (none.0, none_more after its none.1 silent)

-- one more event keeps them alike
pub one_more : {giver : Seat} {sale : Offer} {old new : List Event} → Inserted giver sale old new → (its : Event)
    → round_begun_by its ≡ None → Inserted giver sale (old ++ its ∷ []) (new ++ its ∷ [])
one_more {giver} {sale} is its silent =
    record {
      before = is.before;
      after = is.after ++ its ∷ [];
      number = is.number;
      condition = is.condition;
      some = is.some;
      same_round = none_more is.after its is.same_round silent;
      old_is = ap (λ (list : List Event). list ++ its ∷ []) is.old_is ∙ append_assoc is.before is.after (its ∷ []);
      new_is =
          ap (λ (list : List Event). list ++ its ∷ []) is.new_is
          ∙ append_assoc is.before (offer_line giver is.number is.condition sale ∷ is.after) (its ∷ []);
    }

in_both : {giver : Seat} {sale : Offer} {a b c d : List Event} (test other : Bool) → other ≡ test
    → Inserted giver sale a b → Inserted giver sale c d
    → Inserted giver sale (if test then a else c) (if other then b else d)
in_both {giver} {sale} {a} {b} {c} {d} test other same first second =
    subst (λ (t : Bool). Inserted giver sale (if test then a else c) (if t then b else d)) (sym same)
    (elim test as (λ (t : Bool). Inserted giver sale (if t then a else c) (if t then b else d)) [
      | true ↦ first
      | false ↦ second
    ])

module _ {giver : Seat} {sale : Offer} where
  broken_too : (seats : ℕ) {old new : List Event} → Inserted giver sale old new
      → Inserted giver sale (with_broken seats old) (with_broken seats new)
  broken_too seats {old} {new} is =
      in_both (breaks seats old) (breaks seats new) (breaks_same is seats) (one_more is event.Broken refl) is

  paid_too : (seats : ℕ) {old new : List Event} → Inserted giver sale old new → (private : Private) (owner : Option Holder)
      → Inserted giver sale (paid_to_owner seats old private owner) (paid_to_owner seats new private owner)
  paid_too seats is private None = is
  paid_too seats is private (Some owner) =
      broken_too seats (one_more is (event.Revenue private owner (revenue_of private)) refl)

  pub revenues_too : (seats : ℕ) (paying : List Private) (old new : List Event) → Inserted giver sale old new
      → Inserted giver sale (after_revenues seats old paying) (after_revenues seats new paying)
  revenues_too seats [] old new is = is
  revenues_too seats (private ∷ others) old new is =
      revenues_too seats others (paid_to_owner seats old private (owner_of old private))
      (paid_to_owner seats new private (owner_of new private))
      (subst (λ (owner : Option Holder). Inserted giver sale (paid_to_owner seats old private (owner_of old private))
      (paid_to_owner seats new private owner)) (sym (owner_same is private))
      (paid_too seats is private (owner_of old private)))

  event_too : {old new : Game} → WithOffer giver sale old new → (its : Event) → round_begun_by its ≡ None
      → WithOffer giver sale (with_event old its) (with_event new its)
  event_too is its silent = record { seats = is.seats; list = one_more is.list its silent }

  games_in_both : {a b c d : Game} (test other : Bool) → other ≡ test → WithOffer giver sale a b
      → WithOffer giver sale c d → WithOffer giver sale (if test then a else c) (if other then b else d)
  games_in_both {a} {b} {c} {d} test other same first second =
      subst (λ (t : Bool). WithOffer giver sale (if test then a else c) (if t then b else d)) (sym same)
      (elim test as (λ (t : Bool). WithOffer giver sale (if t then a else c) (if t then b else d)) [
        | true ↦ first
        | false ↦ second
      ])

  -- by a home token
  pub home_too : {old new : Game} → WithOffer giver sale old new → (company : Company)
      → WithOffer giver sale (with_home old company) (with_home new company)
  home_too {old} {new} is company =
      games_in_both (has_home_token old.events company) (has_home_token new.events company)
      (ap (λ (tokens : List (Place × Company)). has_token tokens (home_of company) company) (tokens_same is.list)) is
      (event_too is (event.Home company (place_of (home_of company))) refl)

  -- by what a company withholds
  moved_too : (move : Square → Square) {old new : List Event} → Inserted giver sale old new → (company : Company)
      (square : Option Square) → Inserted giver sale (moved_from move old company square) (moved_from move new company square)
  moved_too move is company None = is
  moved_too move is company (Some square) =
      in_both (same_square (move square) square) (same_square (move square) square) refl is
      (one_more is (event.Moves company (move square)) refl)

  pub withheld_too : {old new : Game} → WithOffer giver sale old new → (company : Company) (amount : ℕ)
      → WithOffer giver sale (withheld old company amount) (withheld new company amount)
  withheld_too {old} {new} is company amount =
      let its : Event = event.Withheld company amount in
      let paid = one_more is.list its refl in
      let recorded : Inserted giver sale (with_broken old.seats (old.events ++ its ∷ []))
      (with_broken new.seats (new.events ++ its ∷ [])) =
      subst (λ (seats : ℕ). Inserted giver sale (with_broken old.seats (old.events ++ its ∷ []))
      (with_broken seats (new.events ++ its ∷ []))) (sym is.seats) (broken_too old.seats paid) in
      let there : List Event = with_broken old.seats (old.events ++ its ∷ []) in
      let with_it : List Event = with_broken new.seats (new.events ++ its ∷ []) in
      record {
        seats = is.seats;
        list =
            subst (λ (square : Option Square). Inserted giver sale
            (moved_from square_left_of there company (square_of there company))
            (moved_from square_left_of with_it company square)) (sym (square_same recorded company))
            (moved_too square_left_of recorded company (square_of there company));
      }

  -- whether a train must be bought
  counts_too : {old new : List Event} → Inserted giver sale old new → (owner : Option Company) (some : List Kind)
      → trains_of_kinds new owner some ≡ trains_of_kinds old owner some
  counts_too is owner [] = refl
  counts_too {old} {new} is owner (kind ∷ others) =
      ap (λ (n : ℤ). n +ℤ trains_of_kinds new owner others)
      (read_same is (λ events. trains_held events owner kind)
      ((trains_alike is.before is.after giver is.number (done is)).held owner kind))
      ∙ ap (λ (n : ℤ). trains_held old owner kind +ℤ n) (counts_too is owner others)

  position_too : {old new : List Event} → Inserted giver sale old new
      → position_of (map_state_now new) ≡ position_of (map_state_now old)
  position_too {old} {new} is =
      let line : Event = offer_line giver is.number is.condition sale in
      ap (λ (lays : List Lay). position_of (map_state_of lays (tokens_of new) (phase_of new)))
      (read_same is lays_of (kept_between tile_laid line is.before is.after refl))
      ∙ ap (λ (tokens : List (Place × Company)). position_of (map_state_of (lays_of old) tokens (phase_of new)))
      (tokens_same is)
      ∙ ap (λ (phase : Kind). position_of (map_state_of (lays_of old) (tokens_of old) phase))
      (read_same is phase_of (same_phase is.before is.after giver is.number (done is)))

  pub due_too : {old new : Game} → WithOffer giver sale old new → (company : Company) → IsDue new company → IsDue old company
  due_too {old} {new} is company due = (
    ap (λ (n : ℤ). lt_z (pos 0) n) (sym (counts_too is.list (Some company) kinds)) ∙ due.0,
    subst (λ (position : Position). CanRun position company) (position_too is.list) due.1,
  )
