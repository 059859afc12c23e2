-- What holds of the whole of a company's turn. It has to hold of each event of the turn and of each
-- purchase by the rules, and of one after the other. Then it holds of what the steps of the turn
-- do.
use Rattle.board.specs.LayRules.{map_rules}
use Rattle.board.specs.declared.turn.Asker.{Asker}
use Rattle.events.specs.Event.{phase_set, tile_laid, train_moved}
use Rattle.events.specs.declared.event.Event.{Event}
use Rattle.events.specs.declared.event.Event.TheVariants as event
use Rattle.events.specs.declared.event.Holder.{Holder}
use Rattle.events.specs.declared.event.Holder.TheVariants as holder
use Rattle.events.specs.declared.event.Shareholder.TheVariants as place
use Rattle.totals.specs.LookBack.{Game, with_event}
use Rattle.totals.specs.Shares.{square_of}
use Rattle.history.specs.Record.{breaks, broken_recorded}
use Rattle.map_tables.specs.Home.{home_of}
use Rattle.map_tables.specs.Place.{place_of}
use Rattle.map_tables.specs.declared.lay.Lay.{Lay}
use Rattle.market.specs.Moves.{square_left_of, right_of}
use Rattle.market.specs.Token.{moved_from, same_square, with_move}
use Rattle.purchases.proofs.AgreedSales.{train_agreed}
use Rattle.purchases.proofs.TrainSteps.{IsPassedOn, OfClosings, of_bop, of_choice, of_next, of_phase, of_trade}
use Rattle.purchases.proofs.TrainSteps.{of_train_owner}
use Rattle.operating.proofs.TurnEvents.{IsOfTurn}
use Rattle.operating.proofs.TurnSteps.{OfSteps, of_turn}
use Rattle.operating.specs.HomeToken.{has_home_token, with_home}
use Rattle.operating.specs.Pay.{withheld}
use Rattle.certs.specs.Dividend.{all_paid, dividend_paid_to, paid_for, paid_out, paid_to_seats}
use Rattle.operating.specs.MapState.{map_state_now}
use Rattle.operating.specs.TurnState.{TurnState}
use Rattle.purchases.specs.Train.{after_train, begins_phase, train_bought, with_trade}
use Rattle.purchases.specs.Phases.{with_phase}
use Rattle.purchases.specs.SaleLaws.{IsAgreed}
use Rattle.purchases.specs.Train.{purchase_of, train_judgement, train_purchase_cost}
use Rattle.operating.specs.Pay.{withheld_if_unpaid}
use Rattle.operating.specs.Turn.{IsCompanyTurn, begun}
use Rattle.purchases.specs.declared.train.TrainPurchase.{TrainPurchase}
use Rattle.std.proofs.Common.{◌≡◌, ℕ, ◌==◌, Bool, true, false, if◌then◌else◌, List, [], ◌∷◌, ◌++◌, Option, Some, None}
use Rattle.std.proofs.Common.{refl}
use Rattle.tables.specs.Rules.{first_broken}
use Rattle.tables.specs.Seat.{all_seats}
use Rattle.order_grammar.specs.declared.order.TrainSource.{TrainSource}
use Rattle.tables.specs.declared.rolling_stock.Kind.{Kind}
use Rattle.tables.specs.declared.roster.Company.{Company}
use Rattle.tables.specs.declared.round.Round.{Round}
use Rattle.tables.specs.declared.seat.Seat.{Seat}
use Rattle.tables.specs.declared.squares.Square.{Square}

-- What is to be shown of a relation between games that is passed on, so that it holds of a
-- company's turn. It holds of each event of the turn that lays no tile, moves no train and begins
-- no phase. It holds of a lay and of a purchase by the rules.
pub record OfEvents (company : Company) (R : Game → Game → Type 0) : Type 0 where
  pub on : IsPassedOn R
  pub others : (game : Game) (its : Event) → IsOfTurn company game its → tile_laid its ≡ None → train_moved its ≡ None
      → phase_set its ≡ None →
      R game (with_event game its)
  pub lays : (game : Game) (asker : Asker) (lay : Lay) (cost : ℕ)
      → first_broken (map_rules (map_state_now game.events) asker lay) ≡ None →
      R game (with_event game (event.Laid company lay cost))
  pub purchases : (game : Game) (kind : Kind) (from : TrainSource)
      → train_judgement game company (purchase_of kind from) ≡ None →
      R game (after_train game company (purchase_of kind from))

-- what holds of each event of a turn that lays no tile holds of a purchase that is agreed
pub of_purchase : (company : Company) (R : Game → Game → Type 0) → IsPassedOn R →
    ((game : Game) (its : Event) → IsOfTurn company game its → tile_laid its ≡ None → R game (with_event game its)) →
    (game : Game) (purchase : TrainPurchase) →
    IsAgreed (with_trade game company purchase.trade_in).events
    (event.Train company purchase.kind purchase.from (train_purchase_cost purchase)) →
    R game (after_train game company purchase)
of_purchase company R on each game purchase agreed =
    let closes : OfClosings R = λ now private. each now (event.Closed private) tt refl in
    let traded = with_trade game company purchase.trade_in in
    let train = event.Train company purchase.kind purchase.from (train_purchase_cost purchase) in
    let came = with_event traded train in
    let all = train_bought game company purchase in
    let phase = event.Phase purchase.kind in
    let followed = with_phase all purchase.kind in
    let trade : R game traded = of_trade R on (λ now its kind. each now (event.Traded its kind) tt refl) game company
    purchase.trade_in in
    let first : R game all = on.both game came all (on.both game traded came trade (each traded train agreed refl))
    (of_bop R on closes came company) in
    let later : R (with_event all phase) followed = of_phase R on closes
    (λ kind. of_train_owner R on kind (λ now owner. each now (event.Rusted owner kind) tt refl))
    (of_next R on (λ now its kind. each now (event.Discarded its kind) tt refl)) all purchase.kind in
    of_choice R (begins_phase game.events purchase.from purchase.kind) game followed all
    (on.both game all followed first (on.both all (with_event all phase) followed (each all phase tt refl) later)) first

-- so it is shown where it holds of each event
pub by_each : (company : Company) (R : Game → Game → Type 0) → IsPassedOn R →
    ((game : Game) (its : Event) → IsOfTurn company game its → R game (with_event game its)) → OfEvents company R
by_each company R on each =
    record {
      on = on;
      others = λ game its is no_tile no_train no_phase. each game its is;
      lays = λ game asker lay cost rules. each game (event.Laid company lay cost) tt;
      purchases = λ game kind from rules. of_purchase company R on (λ now its is no_tile. each now its is) game
          (purchase_of kind from)
          (train_agreed company game kind from rules);
    }

module _ (company : Company) (R : Game → Game → Type 0) (of : OfEvents company R) where
  -- of BROKEN, where the bank breaks
  of_broken : (game : Game) → R game (broken_recorded game)
  of_broken game =
      elim (breaks game.seats game.events) as (λ (b : Bool). R game
      (record { seats = game.seats; events = if b then game.events ++ event.Broken ∷ [] else game.events })) [
        | true ↦ of.others game event.Broken tt refl refl refl
        | false ↦ of.on.same game
      ]

  -- of the move of a token on the chart
  of_move : (move : Square → Square) (game : Game)
      → R game (record { seats = game.seats; events = with_move move game.events company })
  of_move move game =
      elim (square_of game.events company) as (λ (found : Option Square). R game
      (record { seats = game.seats; events = moved_from move game.events company found })) [
        | None ↦ of.on.same game
        | Some square ↦
            elim (same_square (move square) square) as (λ (b : Bool). R game
            (record {
              seats = game.seats;
              events = if b then game.events else game.events
                  ++ event.Moves company (move square) ∷ [];
            })) [
              | true ↦ of.on.same game
              | false ↦ of.others game (event.Moves company (move square)) tt refl refl refl
            ]
      ]

  -- of what the company withholds, and of what follows
  pub after_withheld : (game : Game) (amount : ℕ)
      → R (with_event game (event.Withheld company amount)) (withheld game company amount)
  after_withheld game amount =
      let paid = with_event game (event.Withheld company amount) in
      of.on.both paid (broken_recorded paid) (withheld game company amount) (of_broken paid)
      (of_move square_left_of (broken_recorded paid))

  pub of_withheld : (game : Game) (amount : ℕ) → R game (withheld game company amount)
  of_withheld game amount =
      let its = event.Withheld company amount in
      of.on.both game (with_event game its) (withheld game company amount) (of.others game its refl refl refl refl)
      (after_withheld game amount)

  -- of a dividend
  of_dividend : (to : Holder) (amount : ℕ) (game : Game) → R game (dividend_paid_to company to amount game)
  of_dividend to amount game =
      let its = event.Dividend company to amount in
      let paid = with_event game its in
      of_choice R (amount == 0) game game (broken_recorded paid) (of.on.same game)
      (of.on.both game paid (broken_recorded paid) (of.others game its tt refl refl refl) (of_broken paid))

  -- of those of some seats
  of_seats_paid : (revenue : ℕ) (game : Game) (seats : List Seat) → R game (paid_to_seats company revenue game seats)
  of_seats_paid revenue game [] = of.on.same game
  of_seats_paid revenue game (seat ∷ seats) =
      let next = paid_for company (holder.Seat seat) (place.Seat seat) revenue game in
      of.on.both game next (paid_to_seats company revenue game (seat ∷ seats)) (of_dividend (holder.Seat seat) _ game)
      (of_seats_paid revenue next seats)

  -- of all that the company pays out
  of_paid_out : (game : Game) (revenue : ℕ) → R game (paid_out game company revenue)
  of_paid_out game revenue =
      let seats = paid_to_seats company revenue game (all_seats game.seats) in
      let all = all_paid company revenue game in
      of.on.both game all (paid_out game company revenue)
      (of.on.both game seats all (of_seats_paid revenue game (all_seats game.seats))
      (of_dividend (holder.Company company) _ seats)) (of_move right_of all)

  -- of its home token
  pub of_home : (game : Game) → R game (with_home game company)
  of_home game =
      let home = event.Home company (place_of (home_of company)) in
      of_choice R (has_home_token game.events company) game game (with_event game home) (of.on.same game)
      (of.others game home tt refl refl refl)

  -- so of the steps of its turn
  pub of_steps : OfSteps company (λ (old new : TurnState). R old.game new.game)
  of_steps =
      record {
        same = λ turn. of.on.same turn.game;
        both = λ a b c. of.on.both a.game b.game c.game;
        more = λ turn its is no_tile no_train no_phase. of.others turn.game its is no_tile no_train no_phase;
        laid = λ turn lays asker lay cost rules. of.lays turn.game asker lay cost rules;
        placed = λ turn asker at cost is rules. of.others turn.game (event.Token company at cost) tt refl refl refl;
        ran = λ turn progress revenue. of.others turn.game (event.Runs company revenue) refl refl refl refl;
        paid = λ turn rules. of_paid_out turn.game turn.progress.runs.revenue;
        kept = λ turn. of_withheld turn.game turn.progress.runs.revenue;
        bought = λ turn kind from rules. of.purchases turn.game kind from rules;
      }

  -- and of the turn up to where the company has paid or withheld
  pub of_paid_turn : (file : List ℕ) (round : Round) (old new : Game)
      (turn : IsCompanyTurn file round company old new) →
      R old (withheld_if_unpaid company turn.last).game
  of_paid_turn file round old new turn =
      of.on.both old (begun old company).game (withheld_if_unpaid company turn.last).game (of_home old)
      (of_turn company _ of_steps file round old new turn)
