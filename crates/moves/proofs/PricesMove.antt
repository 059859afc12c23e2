-- The price of a row is the money that moves by its order.
use Rattle.std.proofs.Common.{◌≡◌, ℕ, zero, suc, ◌*◌, ◌+◌, ◌==◌, Bool, true, false, ◌&&◌, if◌then◌else◌, List, [], ◌∷◌}
use Rattle.std.proofs.Common.{◌++◌, Option, Some, None, ℤ, pos, ◌-ℤ◌, ◌+ℤ◌, is_some, unwrap_or, option_map, refl, sym, ap}
use Rattle.std.proofs.Common.{subst, ◌∙◌, append_assoc, arith, true≢false}
use Rattle.std.proofs.lemmas.Int.{ints}
use Rattle.std.proofs.lemmas.List.{append-nil}
use Rattle.std.specs.List.{fold}
use Rattle.std.proofs.lemmas.Bool.{eq-eqb}
use Rattle.totals.proofs.Privates.{private_itself}
use Rattle.certs.specs.Purchase.{price_on, share_price_of}
use Rattle.certs.specs.SaleAct.{sold, with_president, with_successor}
use Rattle.certs.specs.President.{successor_of}
use Rattle.events.specs.Event.{party_at, party_of_company, payment_of}
use Rattle.events.specs.declared.event.Event.{Event}
use Rattle.events.specs.declared.event.Event.TheVariants as event
use Rattle.events.specs.declared.event.Holder.{Holder}
use Rattle.events.specs.declared.event.Holder.TheVariants as holder
use Rattle.events.specs.declared.event.Party.{Party}
use Rattle.events.specs.declared.ruling.Refusal.{Refusal}
use Rattle.events.specs.declared.ruling.Refusal.TheVariants as refusal
use Rattle.events.specs.declared.ruling.Ruling.{Ruling}
use Rattle.events.specs.declared.ruling.Ruling.TheVariants as ruling
use Rattle.history.specs.Record.{breaks, with_broken}
use Rattle.market.specs.Moves.{fallen}
use Rattle.market.specs.Token.{moved_from, same_square}
use Rattle.moves.proofs.RowRulings.{opening_ruled, stock_ruled}
use Rattle.moves.specs.CompanyRows.{asked_for_private, asked_for_train, private_refusal_by}
use Rattle.moves.specs.CompanyRows.{train_cost, train_refusal_by}
use Rattle.moves.specs.OpeningRows.{opening_cost}
use Rattle.moves.specs.PriceLaws.{MovesInOpening, OpeningPricesMove, PrivatePricesMove}
use Rattle.moves.specs.PriceLaws.{StockPricesMove, TrainPricesMove, cash_of_company, left_after}
use Rattle.moves.specs.RowLaws.{rule_told}
use Rattle.moves.specs.Rows.{answer_if_given, answer_of}
use Rattle.moves.specs.StockRows.{stock_cost}
use Rattle.moves.specs.declared.row.Answer.{Answer}
use Rattle.moves.specs.declared.row.Answer.TheVariants.{Obeyed}
use Rattle.operating.specs.Pay.{withheld}
use Rattle.operating.specs.Progress.{pay_done}
use Rattle.operating.specs.TurnState.{TurnState, ruled, turn_state}
use Rattle.order_grammar.specs.declared.order.Offer.{Offer}
use Rattle.order_grammar.specs.declared.order.Order.{Order}
use Rattle.order_grammar.specs.declared.order.Order.TheVariants as order
use Rattle.order_grammar.specs.declared.order.ShareSource.{ShareSource}
use Rattle.order_grammar.specs.declared.order.ShareSource.TheVariants.{InitialOffering, BankPool}
use Rattle.order_grammar.specs.declared.order.TrainSource.{TrainSource}
use Rattle.order_grammar.specs.declared.order.TrainSource.TheVariants as source
use Rattle.order_grammar.specs.declared.play.PlayOrder.TheVariants as play
use Rattle.privates.specs.Bank.{price_of_private}
use Rattle.privates.specs.ParOfBo.{par_set_by}
use Rattle.privates.specs.Sale.{after_private_sale, gifts}
use Rattle.privates.specs.Turn.{after_opening_order, after_opening_ruling, opening_line_ruling, opening_refusal}
use Rattle.purchases.proofs.ConsentLemmas.{companies_agree, owners_agree}
use Rattle.purchases.specs.Discard.{next_discard, with_discarded, with_next_discarded}
use Rattle.purchases.specs.Phases.{excess_of, rusts_at, with_all_closed, with_closed, with_company_rusted, with_kind_rusted}
use Rattle.purchases.specs.Phases.{with_kind_rusted_at, with_limit_kept, with_one_rusted, with_phase}
use Rattle.purchases.specs.Phases.{with_privates_closed, with_rusted, with_trains_rusted}
use Rattle.purchases.specs.Private.{private_bought, private_judgement, sold_by}
use Rattle.purchases.specs.Train.{after_train, begins_phase, purchase_of, train_bought, train_judgement}
use Rattle.purchases.specs.Train.{train_purchase_cost, with_trade}
use Rattle.purchases.specs.declared.consents.Consents.TheVariants.{All, OfGame}
use Rattle.purchases.specs.declared.train.TrainPurchase.{TrainPurchase}
use Rattle.stock_round.specs.Buy.{share_bought}
use Rattle.stock_round.specs.Exchange.{exchange_source, exchanged}
use Rattle.stock_round.specs.Float.{floated_at, is_to_float, with_float}
use Rattle.stock_round.specs.Orders.{after_stock_order, stock_refusal}
use Rattle.stock_round.specs.Par.{president_shares}
use Rattle.stock_round.specs.Turn.{after_stock_ruling, stock_line_ruling}
use Rattle.tables.specs.Roster.{companies, privates, same_company}
use Rattle.tables.specs.Steps.{iterate}
use Rattle.tables.specs.Train.{kinds, rusting_of, same_kind}
use Rattle.tables.specs.declared.rolling_stock.Kind.{Kind}
use Rattle.tables.specs.declared.rolling_stock.Kind.TheVariants.{Five}
use Rattle.tables.specs.declared.roster.Company.{Company}
use Rattle.tables.specs.declared.roster.Company.TheVariants as company
use Rattle.tables.specs.declared.roster.Private.{Private}
use Rattle.tables.specs.declared.roster.Private.TheVariants.{BaltimoreOhio, CamdenAmboy, SchuylkillValley}
use Rattle.tables.specs.declared.roster.Private.TheVariants as private
use Rattle.tables.specs.declared.seat.Seat.{Seat}
use Rattle.tables.specs.declared.squares.Square.{Square}
use Rattle.totals.proofs.EventAtEnd.{bid_of_at_end, cash_of_at_end, cash_of_before, owner_of_before, par_of_before}
use Rattle.totals.proofs.EventAtEnd.{square_of_before, sv_price_of_before}
use Rattle.totals.specs.Bids.{bid_of}
use Rattle.totals.specs.LookBack.{Game, cash_of, owner_of, paid_by, paid_to, with_event}
use Rattle.totals.specs.Shares.{par_of, president_of, square_of}
use Rattle.totals.specs.Trains.{at_least_zero, trains_held}
use Rattle.turns.proofs.Ruled.{none_as_refusal}
use Rattle.turns.specs.RoundOfTurns.{in_turn}
use Rattle.turns.specs.Ruling.{judged}
use Rattle.tables.proofs.Companies.{company_itself}
use Rattle.operating.proofs.Idle.{same_either_way}

-- an event by which a party pays this much, and gets nothing
pays : (seats : ℕ) (events : List Event) (its : Event) (party : Party) (amount : ℕ)
    → paid_to party (payment_of its) ≡ 0 → paid_by party (payment_of its) ≡ amount
    → cash_of seats (events ++ its ∷ []) party ≡ cash_of seats events party -ℤ pos amount
pays seats events its party amount none all =
    let moves : cash_of seats (events ++ its ∷ []) party
    ≡ (cash_of seats events party +ℤ pos (paid_to party (payment_of its))) -ℤ pos (paid_by party (payment_of its)) =
    cash_of_at_end seats events its party in
    omega (arith, ints, moves, none, all)

-- one by which it gets this much, and pays nothing
gets : (seats : ℕ) (events : List Event) (its : Event) (party : Party) (amount : ℕ)
    → paid_to party (payment_of its) ≡ amount → paid_by party (payment_of its) ≡ 0
    → cash_of seats (events ++ its ∷ []) party ≡ cash_of seats events party +ℤ pos amount
gets seats events its party amount all none =
    let moves : cash_of seats (events ++ its ∷ []) party
    ≡ (cash_of seats events party +ℤ pos (paid_to party (payment_of its))) -ℤ pos (paid_by party (payment_of its)) =
    cash_of_at_end seats events its party in
    omega (arith, ints, moves, none, all)

-- one that is of others
unmoved : (seats : ℕ) (events : List Event) (its : Event) (party : Party)
    → paid_to party (payment_of its) ≡ 0 → paid_by party (payment_of its) ≡ 0
    → cash_of seats (events ++ its ∷ []) party ≡ cash_of seats events party
unmoved seats events its party none_in none_out =
    let moves : cash_of seats (events ++ its ∷ []) party
    ≡ (cash_of seats events party +ℤ pos (paid_to party (payment_of its))) -ℤ pos (paid_by party (payment_of its)) =
    cash_of_at_end seats events its party in
    omega (arith, ints, moves, none_in, none_out)

-- nothing is taken
less_none : (cash : ℤ) → cash ≡ cash -ℤ pos 0
less_none cash = omega (arith, ints)

-- what follows from a deal in shares moves no seat's cash
broken_moves_none : (seats : ℕ) (events : List Event) (party : Party)
    → cash_of seats (with_broken seats events) party ≡ cash_of seats events party
broken_moves_none seats events party =
    elim (breaks seats events) as (λ (b : Bool).
    cash_of seats (if b then events ++ event.Broken ∷ [] else events) party ≡ cash_of seats events party) [
      | true ↦ cash_of_before seats events event.Broken party refl
      | false ↦ refl
    ]

successor_moves_none : (game : Game) (its : Company) (old : Option Seat) (party : Party)
    → cash_of game.seats (with_successor game its old) party ≡ cash_of game.seats game.events party
successor_moves_none game its None party = refl
successor_moves_none game its (Some old) party =
    let seats = game.seats in
    let events = game.events in
    let new : Seat = successor_of seats events its old in
    elim (new.0 == old.0) as (λ (b : Bool).
    cash_of seats (if b then events else events ++ event.President its new ∷ []) party ≡ cash_of seats events party) [
      | true ↦ refl
      | false ↦ cash_of_before seats events (event.President its new) party refl
    ]

float_moves_none : (game : Game) (its : Company) (seat : Seat)
    → cash_of game.seats (with_float game its).events (party_at seat) ≡ cash_of game.seats game.events (party_at seat)
float_moves_none game its seat =
    let seats = game.seats in
    let events = game.events in
    let par : ℕ = unwrap_or (par_of events its) 0 in
    let floats : Event = event.Floats its (10 * par) in
    elim (is_to_float events its) as (λ (b : Bool).
    cash_of seats (if b then (floated_at game its par).events else events) (party_at seat)
    ≡ cash_of seats events (party_at seat)) [
      | true ↦ broken_moves_none seats (events ++ floats ∷ []) (party_at seat)
          ∙ unmoved seats events floats (party_at seat) refl refl
      | false ↦ refl
    ]

token_moves_none : (seats : ℕ) (move : Square → Square) (events : List Event) (its : Company) (at : Option Square)
    (party : Party) → cash_of seats (moved_from move events its at) party ≡ cash_of seats events party
token_moves_none seats move events its None party = refl
token_moves_none seats move events its (Some square) party =
    elim (same_square (move square) square) as (λ (b : Bool).
    cash_of seats (if b then events else events ++ event.Moves its (move square) ∷ []) party
    ≡ cash_of seats events party) [
      | true ↦ refl
      | false ↦ cash_of_before seats events (event.Moves its (move square)) party refl
    ]

-- three events at the end of a list, one by one
one_by_one : (events : List Event) (a b c : Event)
    → events ++ a ∷ b ∷ c ∷ [] ≡ ((events ++ a ∷ []) ++ b ∷ []) ++ c ∷ []
one_by_one events a b c =
    sym (append_assoc (events ++ a ∷ []) (b ∷ []) (c ∷ []) ∙ append_assoc events (a ∷ []) (b ∷ c ∷ []))

-- what a seat that buys pays
buyer_pays : (seat : Seat) (its : Company) (shares : ℕ) (from : ShareSource) (price : ℕ)
    → paid_by (party_at seat) (payment_of (event.Bought its seat shares from price)) ≡ price
buyer_pays seat its shares from price = ap (λ (b : Bool). if b then price else 0) (eq-eqb seat.0 seat.0 refl)

-- what is left of a seat's cash once an order of its turn is done
left_by_act : (game : Game) (seat : Seat) (its : Order)
    → cash_of game.seats (after_stock_order game seat its).events (party_at seat)
    ≡ left_after its (pos (stock_cost game.events its)) (cash_of game.seats game.events (party_at seat))
left_by_act game seat (order.Play (play.Par its price)) =
    let seats = game.seats in
    let events = game.events in
    let pay : Event = event.Bought its seat president_shares InitialOffering (president_shares * price) in
    let first : List Event = events ++ event.Par its price ∷ [] in
    cash_of_before seats (first ++ pay ∷ []) (event.President its seat) (party_at seat) refl
    ∙ pays seats first pay (party_at seat) (2 * price) refl
    (buyer_pays seat its president_shares InitialOffering (president_shares * price))
    ∙ ap (λ (cash : ℤ). cash -ℤ pos (2 * price))
    (cash_of_before seats events (event.Par its price) (party_at seat) refl)
left_by_act game seat (order.Play (play.BuyShare its from)) =
    let price : ℕ = share_price_of game.events its from in
    let paid : Game = share_bought game seat its from in
    float_moves_none (with_president paid its) its seat
    ∙ successor_moves_none paid its (president_of paid.events its) (party_at seat)
    ∙ pays game.seats game.events (event.Bought its seat 1 from price) (party_at seat) price refl
    (buyer_pays seat its 1 from price)
left_by_act game seat (order.Play (play.Sell its shares)) =
    let seats = game.seats in
    let events = game.events in
    let price : ℕ = stock_cost events (order.Play (play.Sell its shares)) in
    let sells : Event = event.Sells its seat shares price in
    let paid : Game = sold game seat its shares in
    let led : List Event = (with_president paid its).events in
    token_moves_none seats (fallen shares) led its (square_of led its) (party_at seat)
    ∙ successor_moves_none paid its (president_of paid.events its) (party_at seat)
    ∙ broken_moves_none seats (events ++ sells ∷ []) (party_at seat)
    ∙ gets seats events sells (party_at seat) price (ap (λ (b : Bool). if b then price else 0) (eq-eqb seat.0 seat.0 refl)) refl
left_by_act game seat (order.Play play.ExchangeMohawk) =
    let nyc : Company = company.NewYorkCentral in
    let given : Game = exchanged game seat in
    float_moves_none (with_president given nyc) nyc seat
    ∙ successor_moves_none given nyc (president_of given.events nyc) (party_at seat)
    ∙ cash_of_before game.seats game.events (event.Exchanged seat (exchange_source game.events)) (party_at seat) refl
    ∙ less_none (cash_of game.seats game.events (party_at seat))
left_by_act game seat other = less_none (cash_of game.seats game.events (party_at seat))

-- a ruling changes no price
same_stock_cost : (events : List Event) (seat : Seat) (number : ℕ) (done : Ruling) (its : Order)
    → stock_cost (events ++ event.Ruled seat number done ∷ []) its ≡ stock_cost events its
same_stock_cost events seat number done (order.Play (play.Par its price)) = refl
same_stock_cost events seat number done (order.Play (play.BuyShare its InitialOffering)) =
    ap (λ (par : Option ℕ). unwrap_or par 0) (par_of_before events (event.Ruled seat number done) its refl)
same_stock_cost events seat number done (order.Play (play.BuyShare its BankPool)) =
    ap price_on (square_of_before events (event.Ruled seat number done) its refl)
same_stock_cost events seat number done (order.Play (play.Sell its shares)) =
    ap (λ (square : Option Square). shares * price_on square)
    (square_of_before events (event.Ruled seat number done) its refl)
same_stock_cost events seat number done other = refl

-- the price of an answer that is obeyed
abbrev obeys : Answer → Bool
obeys (Obeyed price) = true
obeys other = false

abbrev price_in : Answer → ℤ
price_in (Obeyed price) = price
price_in other = pos 0

price_told : (cost price : ℤ) (broken : Option Refusal) → answer_of cost broken ≡ Obeyed price → cost ≡ price
price_told cost price None told = ap price_in told
price_told cost price (Some rule) told = absurd (true≢false (sym (ap obeys told)))

pub stock_prices_move : StockPricesMove
stock_prices_move game seat deals line its price has orders told =
    let seats = game.seats in
    let events = game.events in
    let done : Ruling = ruling.Obeyed line.condition its in
    let after : Game = with_event game (event.Ruled seat line.number done) in
    let is_done : stock_line_ruling seats seat (in_turn events deals) line ≡ done =
    stock_ruled game seat deals line its has orders
    ∙ ap (λ (answer : Answer). judged line.condition its (rule_told answer)) told in
    ap (λ (r : Ruling). cash_of seats (after_stock_ruling seats seat (in_turn events deals) line.number r).events (party_at seat))
    is_done
    ∙ left_by_act after seat its
    ∙ ap (λ (cash : ℤ). left_after its (pos (stock_cost after.events its)) cash)
    (cash_of_before seats events (event.Ruled seat line.number done) (party_at seat) refl)
    ∙ ap (λ (sum : ℤ). left_after its sum (cash_of seats events (party_at seat)))
    (ap pos (same_stock_cost events seat line.number done its)
    ∙ price_told (pos (stock_cost events its)) price (stock_refusal game seat deals.bought its) told)

-- what comes with a private moves no cash
gifts_move_none : (seats : ℕ) (events so_far : List Event) (its : Private) (seat : Seat) (party : Party)
    → cash_of seats (so_far ++ gifts events its seat) party ≡ cash_of seats so_far party
gifts_move_none seats events so_far CamdenAmboy seat party =
    cash_of_before seats so_far (event.Given company.Pennsylvania seat 1) party refl
gifts_move_none seats events so_far BaltimoreOhio seat party =
    let par : Event = event.Par company.BaltimoreOhio (par_set_by events seat) in
    let given : Event = event.Given company.BaltimoreOhio seat 2 in
    let led : Event = event.President company.BaltimoreOhio seat in
    ap (λ (all : List Event). cash_of seats all party) (one_by_one so_far par given led)
    ∙ cash_of_before seats ((so_far ++ par ∷ []) ++ given ∷ []) led party refl
    ∙ cash_of_before seats (so_far ++ par ∷ []) given party refl ∙ cash_of_before seats so_far par party refl
gifts_move_none seats events so_far other seat party =
    ap (λ (all : List Event). cash_of seats all party) (append-nil so_far)

-- a private is paid for
private_paid : (seats : ℕ) (events : List Event) (its : Private) (seat : Seat) (price : ℕ)
    → cash_of seats (after_private_sale events its seat price) (party_at seat)
    ≡ cash_of seats events (party_at seat) -ℤ pos price
private_paid seats events its seat price =
    let pay : Event = event.Sold its seat price in
    ap (λ (all : List Event). cash_of seats all (party_at seat))
    (sym (append_assoc events (pay ∷ []) (gifts events its seat)))
    ∙ gifts_move_none seats events (events ++ pay ∷ []) its seat (party_at seat)
    ∙ pays seats events pay (party_at seat) price refl (ap (λ (b : Bool). if b then price else 0) (eq-eqb seat.0 seat.0 refl))

-- a ruling changes no private's price
same_private_price : (events : List Event) (its : Private) (seat : Seat) (number : ℕ) (done : Ruling)
    → price_of_private (events ++ event.Ruled seat number done ∷ []) its ≡ price_of_private events its
same_private_price events SchuylkillValley seat number done =
    sv_price_of_before events (event.Ruled seat number done) refl
same_private_price events other seat number done = refl

-- what an order of an opening moves, once its line is recorded as obeyed
moves_in_opening : (seats : ℕ) (events : List Event) (seat : Seat) (number : ℕ) (done : Ruling) (its : Order) (price : ℤ)
    → pos (opening_cost events its) ≡ price
    → MovesInOpening seats seat its price events
    (after_opening_order seats seat (events ++ event.Ruled seat number done ∷ []) its)
moves_in_opening seats events seat number done (order.Play (play.BuyPrivate its)) price costs =
    let ruled_list : List Event = events ++ event.Ruled seat number done ∷ [] in
    record {
      paid = after_private_sale ruled_list its seat (price_of_private ruled_list its);
      pays = private_paid seats ruled_list its seat (price_of_private ruled_list its)
          ∙ ap (λ (cash : ℤ). cash -ℤ pos (price_of_private ruled_list its))
          (cash_of_before seats events (event.Ruled seat number done) (party_at seat) refl)
          ∙ ap (λ (sum : ℤ). cash_of seats events (party_at seat) -ℤ sum)
          (ap pos (same_private_price events its seat number done) ∙ costs);
      settles = refl;
    }
moves_in_opening seats events seat number done (order.Play (play.Bid its amount)) price costs =
    let ruled_list : List Event = events ++ event.Ruled seat number done ∷ [] in
    let bids : Event = event.Bids its seat amount in
    record {
      priced = sym costs;
      stands = bid_of_at_end ruled_list bids its seat
          ∙ ap (λ (b : Bool).
          unwrap_or (if b && seat.0 == seat.0 then Some (Some amount) else None) (bid_of ruled_list its seat))
          (private_itself its)
          ∙ ap (λ (b : Bool). unwrap_or (if b then Some (Some amount) else None) (bid_of ruled_list its seat))
          (eq-eqb seat.0 seat.0 refl);
      pays = cash_of_before seats ruled_list bids (party_at seat) refl
          ∙ cash_of_before seats events (event.Ruled seat number done) (party_at seat) refl;
    }
moves_in_opening seats events seat number done other price costs = tt

pub opening_prices_move : OpeningPricesMove
opening_prices_move game seat used line its price has orders told =
    let seats : ℕ = game.seats in
    let events : List Event = game.events in
    let done : Ruling = ruling.Obeyed line.condition its in
    let is_done : opening_line_ruling seats seat (in_turn events used) line ≡ done =
    opening_ruled game seat used line its has orders
    ∙ ap (λ (answer : Answer). judged line.condition its (rule_told answer)) told in
    subst (λ (r : Ruling). MovesInOpening seats seat its price events
    (after_opening_ruling seats seat (in_turn events used) line.number r).events) (sym is_done)
    (moves_in_opening seats events seat line.number done its price
    (price_told (pos (opening_cost events its)) price (opening_refusal seats events seat used its) told))

-- one of two games that have the same
same_either : (b : Bool) (measure : Game → ℤ) (a other : Game) → measure a ≡ measure other
    → measure (if b then a else other) ≡ measure other
same_either true measure a other same = same
same_either false measure a other same = refl

-- what each step keeps, all of them keep
each_keeps : {X : Type 0} (measure : Game → ℤ) (step : Game → X → Game)
    → ((game : Game) (x : X) → measure (step game x) ≡ measure game) → (game : Game) (xs : List X)
    → measure (fold step game xs) ≡ measure game
each_keeps measure step keeps game [] = refl
each_keeps measure step keeps game (x ∷ xs) = each_keeps measure step keeps (step game x) xs ∙ keeps game x

all_keep : (measure : Game → ℤ) (step : Game → Game) → ((game : Game) → measure (step game) ≡ measure game)
    → (game : Game) (count : ℕ) → measure (iterate step count game) ≡ measure game
all_keep measure step keeps game zero = refl
all_keep measure step keeps game (suc count) =
    keeps (iterate step count game) ∙ all_keep measure step keeps game count

module _ (buyer : Company) where
  -- what a company has
  abbrev has : Game → ℤ
  has game = cash_of_company game buyer

  -- an event that pays nothing
  silent : (game : Game) (its : Event) → payment_of its ≡ None → has (with_event game its) ≡ has game
  silent game its none = cash_of_before game.seats game.events its (party_of_company buyer) none

  closed_keeps : (game : Game) (private : Private) → has (with_closed game private) ≡ has game
  closed_keeps game its =
      same_either (is_some (owner_of game.events its)) has (with_event game (event.Closed its)) game
      (silent game (event.Closed its) refl)

  rusted_keeps : (owner : Option Company) (kind : Kind) (game : Game) → has (with_trains_rusted owner kind game) ≡ has game
  rusted_keeps owner kind game =
      all_keep has (with_one_rusted owner kind) (λ mid. silent mid (event.Rusted owner kind) refl) game
      (at_least_zero (trains_held game.events owner kind))

  kind_keeps : (game : Game) (kind : Kind) → has (with_kind_rusted game kind) ≡ has game
  kind_keeps game kind =
      rusted_keeps None kind (fold (with_company_rusted kind) game companies)
      ∙ each_keeps has (with_company_rusted kind) (λ mid company. rusted_keeps (Some company) kind mid) game companies

  phase_keeps : (game : Game) (phase : Kind) → has (with_phase game phase) ≡ has game
  phase_keeps game phase =
      let begun : Game = with_event game (event.Phase phase) in
      let rusted : Game = with_rusted phase begun in
      let closed : Game = with_privates_closed phase rusted in
      each_keeps has with_limit_kept (λ mid company. limit_keeps mid company) closed companies
      ∙ same_either (same_kind phase Five) has (with_all_closed rusted) rusted
      (each_keeps has with_closed closed_keeps rusted privates)
      ∙ each_keeps has (with_kind_rusted_at phase) (λ mid kind.
      same_either (rusts_at (rusting_of kind) phase) has (with_kind_rusted mid kind) mid (kind_keeps mid kind)) begun kinds
      ∙ silent game (event.Phase phase) refl
    where
      discard_keeps : (game : Game) (company : Company) (kind : Option Kind)
          → has (with_discarded game company kind) ≡ has game
      discard_keeps game company None = refl
      discard_keeps game company (Some kind) = silent game (event.Discarded company kind) refl

      limit_keeps : (game : Game) (company : Company) → has (with_limit_kept game company) ≡ has game
      limit_keeps game company =
          all_keep has (with_next_discarded company)
          (λ mid. discard_keeps mid company (next_discard mid.events company)) game (excess_of game company)

  -- a train is paid for
  train_paid : (game : Game) (purchase : TrainPurchase)
      → paid_to (party_of_company buyer)
      (payment_of (event.Train buyer purchase.kind purchase.from (train_purchase_cost purchase))) ≡ 0
      → has (after_train game buyer purchase) ≡ has game -ℤ pos (train_purchase_cost purchase)
  train_paid game purchase others =
      let traded : Game = with_trade game buyer purchase.trade_in in
      let pay : Event = event.Train buyer purchase.kind purchase.from (train_purchase_cost purchase) in
      let paid : Game = with_event traded pay in
      same_either (begins_phase game.events purchase.from purchase.kind) has
      (with_phase (train_bought game buyer purchase) purchase.kind) (train_bought game buyer purchase)
      (phase_keeps (train_bought game buyer purchase) purchase.kind)
      ∙ same_either (same_company buyer company.BaltimoreOhio) has (with_closed paid private.BaltimoreOhio) paid
      (closed_keeps paid private.BaltimoreOhio)
      ∙ pays traded.seats traded.events pay (party_of_company buyer) (train_purchase_cost purchase) others
      (ap (λ (b : Bool). if b then train_purchase_cost purchase else 0) (company_itself buyer))
      ∙ ap (λ (cash : ℤ). cash -ℤ pos (train_purchase_cost purchase)) (trade_keeps game purchase.trade_in)
    where
      trade_keeps : (game : Game) (trade_in : Option Kind) → has (with_trade game buyer trade_in) ≡ has game
      trade_keeps game None = refl
      trade_keeps game (Some kind) = silent game (event.Traded buyer kind) refl

  -- the company pays others
  pays_others : (game : Game) (kind : Kind) (from : TrainSource) → train_judgement game buyer (purchase_of kind from) ≡ None
      → paid_to (party_of_company buyer) (payment_of (event.Train buyer (purchase_of kind from).kind
      (purchase_of kind from).from (train_purchase_cost (purchase_of kind from)))) ≡ 0
  pays_others game kind source.Bank kept = refl
  pays_others game kind (source.Trade other) kept = refl
  pays_others game kind source.BankPool kept = refl
  pays_others game kind (source.Company seller price) kept =
      ap (λ (b : Bool). if b then price else 0)
      (same_either_way seller buyer ∙ (companies_agree game buyer seller kind price kept).another)

-- the price of an answer that needs no consent
price_given : (cost price : ℤ) (broken given : Option Refusal) (asked : Option (Seat × Offer))
    → answer_if_given cost broken given asked ≡ Obeyed price → (broken ≡ None) × (cost ≡ price)
price_given cost price None given asked told = (refl, ap price_in told)
price_given cost price (Some rule) None None told = absurd (true≢false (sym (ap obeys told)))
price_given cost price (Some rule) None (Some asked) told = absurd (true≢false (sym (ap obeys told)))
price_given cost price (Some rule) (Some other) asked told = absurd (true≢false (sym (ap obeys told)))

pub train_prices_move : TrainPricesMove
unfolding train_refusal_by
train_prices_move by turn line kind from price new past told leads =
    let purchase : TrainPurchase = purchase_of kind from in
    let done : Ruling = ruling.Obeyed line.condition (order.Play (play.BuyTrain kind from)) in
    let its : Event = event.Ruled by.president line.number done in
    let recorded : Game = with_event turn.game its in
    let parts = price_given (pos (train_cost kind from)) price (train_refusal_by OfGame turn.game by.company kind from)
    (train_refusal_by All turn.game by.company kind from) (asked_for_train turn.game.events by.company kind from) told in
    let kept : train_judgement turn.game by.company purchase ≡ None =
    none_as_refusal refusal.Train (train_judgement turn.game by.company purchase) parts.0 in
    let ruled_by : TurnState → Option Refusal → TurnState = λ turn rule. ruled by turn line (order.Play (play.BuyTrain kind from)) rule
    (λ (after : TurnState). turn_state (after_train after.game by.company purchase) after.progress) in
    let is : new ≡ turn_state (after_train recorded by.company purchase) turn.progress =
    leads
    ∙ ap (λ (b : Bool).
    let paid : TurnState =
    if b then turn_state (withheld turn.game by.company turn.progress.runs.revenue) (pay_done turn.progress) else turn in
    ruled_by paid (option_map refusal.Train (train_judgement paid.game by.company purchase))) past
    ∙ ap (λ (rule : Option Refusal). ruled_by turn rule) parts.0 in
    ap (λ (t : TurnState). cash_of_company t.game by.company) is
    ∙ train_paid by.company recorded purchase (pays_others by.company turn.game kind from kept)
    ∙ ap (λ (cash : ℤ). cash -ℤ pos (train_purchase_cost purchase))
    (cash_of_before turn.game.seats turn.game.events its (party_of_company by.company) refl)
    ∙ ap (λ (sum : ℤ). cash_of_company turn.game by.company -ℤ sum) parts.1

-- a private is paid for, if a player owns it
owned_paid : (game : Game) (buyer : Company) (its : Private) (cost : ℕ) (owner : Option Holder) (seller : Seat)
    → owner ≡ Some (holder.Seat seller)
    → cash_of_company (sold_by game buyer its cost owner) buyer ≡ cash_of_company game buyer -ℤ pos cost
owned_paid game buyer its cost owner seller owns =
    ap (λ (o : Option Holder). cash_of_company (sold_by game buyer its cost o) buyer) owns
    ∙ pays game.seats game.events (event.PrivateBought its buyer seller cost) (party_of_company buyer) cost refl
    (ap (λ (b : Bool). if b then cost else 0) (company_itself buyer))

pub private_prices_move : PrivatePricesMove
unfolding private_refusal_by
private_prices_move by turn line its cost price new told leads =
    let done : Ruling = ruling.Obeyed line.condition (order.Play (play.BuyOwnedPrivate its cost)) in
    let recorded : Event = event.Ruled by.president line.number done in
    let after : Game = with_event turn.game recorded in
    let parts = price_given (pos cost) price (private_refusal_by OfGame turn.game by.company its cost)
    (private_refusal_by All turn.game by.company its cost) (asked_for_private turn.game.events by.company its cost) told in
    let kept : private_judgement turn.game by.company its cost ≡ None =
    none_as_refusal refusal.Private (private_judgement turn.game by.company its cost) parts.0 in
    let agreed = owners_agree turn.game by.company its cost kept in
    let is : new ≡ turn_state (private_bought after by.company its cost) turn.progress =
    leads
    ∙ ap (λ (rule : Option Refusal). ruled by turn line (order.Play (play.BuyOwnedPrivate its cost)) rule
    (λ (then_is : TurnState). turn_state (private_bought then_is.game by.company its cost) then_is.progress)) parts.0 in
    ap (λ (t : TurnState). cash_of_company t.game by.company) is
    ∙ owned_paid after by.company its cost (owner_of after.events its) agreed.giver
    (owner_of_before turn.game.events recorded its refl ∙ agreed.owns)
    ∙ ap (λ (cash : ℤ). cash -ℤ pos cost)
    (cash_of_before turn.game.seats turn.game.events recorded (party_of_company by.company) refl)
    ∙ ap (λ (sum : ℤ). cash_of_company turn.game by.company -ℤ sum) parts.1
