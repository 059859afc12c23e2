-- What holds of the whole of a company's turn, up to its end, where it may have to buy a train. It
-- has to hold of each event of the turn and of each purchase by the rules. It has to hold of the
-- sales to raise money, of a bankruptcy, and of one after the other.
use Rattle.std.proofs.Common.{◌≡◌, ℕ, zero, suc, ◌*◌, ◌==◌, Bool, true, false, if◌then◌else◌, List, [], ◌∷◌, ◌++◌}
use Rattle.std.proofs.Common.{Option, Some, None, is_some, is_none, Result, Ok, inl, inr, pos, refl, sym, subst}
use Rattle.std.specs.Int.Signed.{lt_z}
use Rattle.certs.specs.President.{successor_of}
use Rattle.certs.specs.Purchase.{market_price_of}
use Rattle.certs.specs.SaleAct.{sold, with_president, with_successor}
use Rattle.certs.specs.declared.share_deal.Sale.{Sale}
use Rattle.events.specs.Event.{bidding_of, operated_by, ownership_of, phase_set, round_begun_by, tile_laid, train_moved}
use Rattle.events.specs.declared.event.Event.{Event}
use Rattle.events.specs.declared.event.Event.TheVariants as event
use Rattle.events.specs.declared.ruling.Refusal.{Refusal}
use Rattle.events.specs.declared.ruling.Ruling.{Ruling}
use Rattle.events.specs.declared.ruling.Ruling.TheVariants.{Obeyed, Refused}
use Rattle.totals.specs.LookBack.{Game, with_event, with_events}
use Rattle.totals.specs.Shares.{president_of, square_of}
use Rattle.history.specs.Record.{breaks}
use Rattle.totals.specs.Trains.{at_least_zero}
use Rattle.market.specs.Moves.{fallen}
use Rattle.market.specs.Token.{moved_from, same_square}
use Rattle.forced_purchase.proofs.CheapestTrain.{IsPlain, forced_allowed}
pub use Rattle.forced_purchase.proofs.CheapestTrain.{cheapest_plain}
use Rattle.forced_purchase.proofs.TrainCounts.{still_none}
use Rattle.forced_purchase.proofs.Steps.{next_allowed, raise_obeyed, still_allowed}
use Rattle.purchases.proofs.TrainSteps.{of_choice}
use Rattle.operating.proofs.TurnGames.{OfEvents, of_paid_turn}
use Rattle.operating.specs.TurnEnd.{EndLeads}
use Rattle.forced_purchase.specs.Forced.{after_forced, concluded}
use Rattle.forced_purchase.specs.Raise.{after_raise_line, after_raises}
use Rattle.forced_purchase.specs.Shortfall.{cheapest, falls_short}
use Rattle.forced_purchase.specs.Shortfall.{lack_of}
use Rattle.forced_purchase.specs.Forced.{next_to_sell, one_share}
use Rattle.forced_purchase.specs.Raise.{raise_judgement, raise_ruled, raised_sale_judgement}
use Rattle.forced_purchase.specs.Forced.{sold_further, sold_singly, with_aid, with_one_sold}
use Rattle.forced_purchase.specs.Raise.{after_presidents_sale, with_ruling}
use Rattle.purchases.specs.Train.{has_trains, train_judgement}
use Rattle.purchases.specs.Train.{after_train}
use Rattle.purchases.specs.PrivateLaws.{names_owner}
use Rattle.purchases.specs.SaleLaws.{sells_to_company}
use Rattle.operating.specs.Pay.{withheld_if_unpaid}
use Rattle.operating.specs.Turn.{CompanyOrdersEnd, IsCompanyTurn}
use Rattle.forced_purchase.specs.declared.operator.Operator.{Operator}
use Rattle.purchases.specs.declared.train.TrainPurchase.{TrainPurchase}
use Rattle.order_grammar.specs.declared.fault.Fault.{Fault}
use Rattle.order_grammar.specs.declared.order.Order.{Order}
use Rattle.order_grammar.specs.declared.order.Order.TheVariants as order
use Rattle.order_grammar.specs.declared.order.TrainSource.TheVariants as source
use Rattle.order_grammar.specs.declared.play.PlayOrder.TheVariants as play
use Rattle.sheets.specs.CompanyOrders.{company_orders_for}
use Rattle.sheets.specs.Part.{Numbered}
use Rattle.tables.specs.Steps.{iterate}
use Rattle.tables.specs.declared.roster.Company.{Company}
use Rattle.tables.specs.declared.round.Round.{Round}
use Rattle.tables.specs.declared.seat.Seat.{Seat}
use Rattle.tables.specs.declared.squares.Square.{Square}

-- what a forced purchase can add beside the events of any turn: a presidency that passes, and a
-- bankruptcy
abbrev pub IsOfForced : Event → Type 0
IsOfForced (event.President its seat) = Unit
IsOfForced (event.Bankrupt seat) = Unit
IsOfForced other = ⊥

-- none of them begins a round, says who operates, sells to a company, bids, or gives a private an
-- owner
pub forced_begins_none : (its : Event) → IsOfForced its → is_some (round_begun_by its) ≡ false
forced_begins_none (event.President company seat) is = refl
forced_begins_none (event.Bankrupt seat) is = refl
forced_begins_none other is = absurd is

pub forced_operates_none : (its : Event) → IsOfForced its → operated_by its ≡ None
forced_operates_none (event.President company seat) is = refl
forced_operates_none (event.Bankrupt seat) is = refl
forced_operates_none other is = absurd is

pub forced_sells_none : (its : Event) → IsOfForced its → sells_to_company its ≡ false
forced_sells_none (event.President company seat) is = refl
forced_sells_none (event.Bankrupt seat) is = refl
forced_sells_none other is = absurd is

pub forced_bids_none : (its : Event) → IsOfForced its → is_none (bidding_of its) ≡ true
forced_bids_none (event.President company seat) is = refl
forced_bids_none (event.Bankrupt seat) is = refl
forced_bids_none other is = absurd is

pub forced_names_none : (its : Event) → IsOfForced its → names_owner (ownership_of its) ≡ false
forced_names_none (event.President company seat) is = refl
forced_names_none (event.Bankrupt seat) is = refl
forced_names_none other is = absurd is

-- it holds of these
abbrev pub OfForced : (Game → Game → Type 0) → Type 0
OfForced R = (game : Game) (its : Event) → IsOfForced its → tile_laid its ≡ None → train_moved its ≡ None
    → phase_set its ≡ None →
    R game (with_event game its)

-- it holds of each presidency that passes
abbrev pub OfPresidents : (Game → Game → Type 0) → Type 0
OfPresidents R = (game : Game) (company : Company) (seat : Seat)
    → R game (with_event game (event.President company seat))

-- it holds of the sales by the rules by which money is raised
abbrev pub OfSales : Operator → (Game → Game → Type 0) → Type 0
OfSales by R = (game : Game) (sale : Sale) → raised_sale_judgement by game sale ≡ None → R game (after_presidents_sale by game sale)

-- it holds of the president's bankruptcy
abbrev pub OfBankruptcies : Operator → (Game → Game → Type 0) → Type 0
OfBankruptcies by R = (game : Game) → R game (with_event game (event.Bankrupt by.president))

module _ (by : Operator) (R : Game → Game → Type 0) (of : OfEvents by.company R) (presidents : OfPresidents R) where
  -- of either of two lists
  of_list : (test : Bool) (game : Game) (some others : List Event) → R game (with_events game some)
      → R game (with_events game others) → R game (with_events game (if test then some else others))
  of_list true game some others first second = first
  of_list false game some others first second = second

  -- of a bank that breaks
  of_break : (game : Game) (events : List Event) → R game (with_events game events)
      → R game (with_events game (if breaks game.seats events then events ++ event.Broken ∷ [] else events))
  of_break game events so_far =
      of_list (breaks game.seats events) game (events ++ event.Broken ∷ []) events
      (of.on.both game (with_events game events) (with_events game (events ++ event.Broken ∷ [])) so_far
      (of.others (with_events game events) event.Broken tt refl refl refl)) so_far

  -- of a presidency that passes
  of_succession : (game : Game) (company : Company) (old : Option Seat)
      → R game (with_events game (with_successor game company old))
  of_succession game company None = of.on.same game
  of_succession game company (Some old) =
      let new : Seat = successor_of game.seats game.events company old in
      of_list (new.0 == old.0) game game.events (game.events ++ event.President company new ∷ []) (of.on.same game)
      (presidents game company new)

  -- of the token of a company that moves
  of_token_moved : (move : Square → Square) (game : Game) (company : Company) (square : Option Square)
      → R game (with_events game (moved_from move game.events company square))
  of_token_moved move game company None = of.on.same game
  of_token_moved move game company (Some square) =
      of_list (same_square (move square) square) game game.events
      (game.events ++ event.Moves company (move square) ∷ []) (of.on.same game)
      (of.others game (event.Moves company (move square)) tt refl refl refl)

  -- of a sale
  pub of_sale : OfSales by R
  of_sale game sale none =
      let company = sale.company in
      let sells : Event = event.Sells company by.president sale.shares
      (sale.shares * market_price_of game.events company) in
      let recorded : Game = with_event game sells in
      let paid : Game = sold game by.president company sale.shares in
      let led : Game = with_president paid company in
      let first : R game paid = of_break game recorded.events (of.others game sells tt refl refl refl) in
      let second : R paid led = of_succession paid company (president_of paid.events company) in
      of.on.both game led (after_presidents_sale by game sale) (of.on.both game paid led first second)
      (of_token_moved (fallen sale.shares) led company (square_of led.events company))

-- once the purchase is recorded and the money is raised
abbrev pub gained_of : Operator → List Numbered → Game → Game
gained_of by lines game = sold_singly by (after_raises true by (with_event game (event.Forced by.company)) lines)

-- the company still has no train then
pub gained_none : (by : Operator) (lines : List Numbered) (game : Game) → has_trains game.events by.company ≡ false →
    has_trains (gained_of by lines game).events by.company ≡ false
gained_none by lines game none =
    let recorded : Game = with_event game (event.Forced by.company) in
    let raised : Game = after_raises true by recorded lines in
    still_none by lines game recorded raised (sold_singly by raised) refl refl refl none

module _ (by : Operator) (R : Game → Game → Type 0) (of : OfEvents by.company R) (sales : OfSales by R) where
  -- of a RAISE
  of_raise_ruled : (due : Bool) (game : Game) (line : Numbered) (sale : Sale) (broken : Option Refusal)
      → raise_judgement due by game line.condition sale ≡ broken →
      R game (raise_ruled by game line sale broken)
  of_raise_ruled due game line sale None none =
      let obeyed : Ruling = Obeyed line.condition (order.Play (play.Raise sale.company sale.shares)) in
      let ruled : Game = with_ruling by game line obeyed in
      of.on.both game ruled (after_presidents_sale by ruled sale)
      (of.others game (event.Ruled by.president line.number obeyed) tt refl refl refl)
      (sales ruled sale (still_allowed by game line obeyed sale (raise_obeyed due by game line.condition sale none)))
  of_raise_ruled due game line sale (Some rule) some =
      of.others game (event.Ruled by.president line.number
      (Refused rule line.condition (order.Play (play.Raise sale.company sale.shares)))) tt refl refl refl

  of_raise_line : (due : Bool) (game : Game) (line : Numbered) (reading : Result Order Fault)
      → R game (after_raise_line due by game line reading)
  of_raise_line due game line (Ok (order.Play (play.Raise company shares))) =
      let sale : Sale = record { company = company; shares = shares } in
      of_raise_ruled due game line sale (raise_judgement due by game line.condition sale) refl
  of_raise_line due game line other = of.on.same game

  pub of_raises : (due : Bool) (lines : List Numbered) (game : Game) → R game (after_raises due by game lines)
  of_raises due [] game = of.on.same game
  of_raises due (line ∷ lines) game =
      let next : Game = after_raise_line due by game line line.reading in
      of.on.both game next (after_raises due by next lines) (of_raise_line due game line line.reading)
      (of_raises due lines next)

  -- of single shares
  of_one_sold : (game : Game) (found : Option Company) → next_to_sell by game ≡ found
      → R game (with_one_sold by game found)
  of_one_sold game None none = of.on.same game
  of_one_sold game (Some company) found = sales game (one_share company) (next_allowed by game company found)

  of_further : (game : Game) → R game (sold_further by game)
  unfolding sold_further
  of_further game =
      of_choice R (falls_short by game) game (with_one_sold by game (next_to_sell by game)) game
      (of_one_sold game (next_to_sell by game) refl) (of.on.same game)

  of_times : (n : ℕ) (game : Game) → R game (iterate (sold_further by) n game)
  of_times zero game = of.on.same game
  of_times (suc n) game =
      of.on.both game (iterate (sold_further by) n game) (iterate (sold_further by) (suc n) game) (of_times n game)
      (of_further (iterate (sold_further by) n game))

  of_singly : (game : Game) → R game (sold_singly by game)
  unfolding sold_singly
  of_singly game = of_times 40 game

  -- of all that raises money, once the purchase is recorded
  pub of_gained : (lines : List Numbered) (game : Game) → R game (gained_of by lines game)
  of_gained lines game =
      let recorded : Game = with_event game (event.Forced by.company) in
      let raised : Game = after_raises true by recorded lines in
      of.on.both game recorded (sold_singly by raised) (of.others game (event.Forced by.company) tt refl refl refl)
      (of.on.both recorded raised (sold_singly by raised) (of_raises true lines recorded) (of_singly raised))

  -- of what the president pays
  of_aid : (game : Game) → R game (with_aid by game)
  unfolding with_aid
  of_aid game =
      let its : Event = event.Aid by.president by.company (at_least_zero (lack_of game by.company)) in
      of_choice R (lt_z (pos 0) (lack_of game by.company)) game (with_event game its) game
      (of.others game its tt refl refl refl) (of.on.same game)

  -- of a purchase for which none is traded in
  of_plain : (game : Game) (events : List Event) (purchase : TrainPurchase) → IsPlain events purchase →
      train_judgement game by.company purchase ≡ None → R game (after_train game by.company purchase)
  of_plain game events purchase its =
      let Goes : TrainPurchase → Type 0 = λ bought. train_judgement game by.company bought ≡ None
      → R game (after_train game by.company bought) in
      elim its.1 [
        | inl is ↦ subst Goes (sym is) (of.purchases game its.0 source.Bank)
        | inr is ↦ subst Goes (sym is) (of.purchases game its.0 source.BankPool)
      ]

  -- of what the president pays, and of the purchase
  pub of_bought : (game : Game) → has_trains game.events by.company ≡ false
      → R game (after_train (with_aid by game) by.company (cheapest game.events))
  of_bought game none =
      of.on.both game (with_aid by game) (after_train (with_aid by game) by.company (cheapest game.events))
      (of_aid game)
      (of_plain (with_aid by game) game.events (cheapest game.events) (cheapest_plain game.events)
      (forced_allowed by game none))

  -- of the purchase, or the bankruptcy
  of_concluded : OfBankruptcies by R → (game : Game) → has_trains game.events by.company ≡ false
      → R game (concluded by game)
  unfolding concluded
  of_concluded fails game none =
      of_choice R (falls_short by game) game (with_event game (event.Bankrupt by.president))
      (after_train (with_aid by game) by.company (cheapest game.events))
      (fails game) (of_bought game none)

  of_forced : OfBankruptcies by R → (lines : List Numbered) (game : Game) → has_trains game.events by.company ≡ false
      → R game (after_forced by lines game)
  unfolding after_forced
  of_forced fails lines game none =
      let gained : Game = gained_of by lines game in
      of.on.both game gained (concluded by gained) (of_gained lines game)
      (of_concluded fails gained (gained_none by lines game none))

  -- of the end of the turn
  pub of_end : OfBankruptcies by R → (lines : List Numbered) (game new : Game) → EndLeads by lines game new → R game new
  of_end fails lines game new (inl due) = subst (R game) (sym due.1) (of_forced fails lines game due.0.0)
  of_end fails lines game new (inr none) = subst (R game) (sym none.1) (of_raises false lines game)

-- the operator that a seat is for a company
abbrev pub operator : Company → Seat → Operator
operator company seat = record { company = company; president = seat }

module _ (company : Company) (R : Game → Game → Type 0) (of : OfEvents company R) where
  -- of what a company's orders bring at the end of the turn, where a president sells and may be
  -- bankrupt
  pub of_presided_end : (file : List ℕ) (round : Round) (game : Game) (president : Option Seat) (new : Game) →
      ((seat : Seat) → president ≡ Some seat → OfSales (operator company seat) R
      × OfBankruptcies (operator company seat) R) →
      CompanyOrdersEnd file round company game president new → R game new
  of_presided_end file round game None new presided ends = subst (R game) (sym ends) (of.on.same game)
  of_presided_end file round game (Some seat) new presided ends =
      let by = presided seat refl in
      of_end (operator company seat) R of by.0 by.1 (company_orders_for file round seat.0 company) game new ends

  -- so of the whole turn
  pub of_presided_turn : (file : List ℕ) (round : Round) (old new : Game) →
      ((seat : Seat) → president_of old.events company ≡ Some seat
      → OfSales (operator company seat) R × OfBankruptcies (operator company seat) R) →
      IsCompanyTurn file round company old new → R old new
  of_presided_turn file round old new presided turn =
      let paid : Game = (withheld_if_unpaid company turn.last).game in
      of.on.both old paid new (of_paid_turn company R of file round old new turn)
      (of_presided_end file round paid (president_of old.events company) new presided turn.after)

module _ (company : Company) (R : Game → Game → Type 0) (of : OfEvents company R) (more : OfForced R) where
  -- of the sales of a president, and of the bankruptcy
  of_president : (seat : Seat) → OfSales (operator company seat) R × OfBankruptcies (operator company seat) R
  of_president seat = (
    of_sale (operator company seat) R of (λ game its new. more game (event.President its new) tt refl refl refl),
    λ game. more game (event.Bankrupt seat) tt refl refl refl,
  )

  -- so of the end of the turn
  pub of_orders_end : (file : List ℕ) (round : Round) (game : Game) (president : Option Seat) (new : Game) →
      CompanyOrdersEnd file round company game president new → R game new
  of_orders_end file round game president new ends =
      of_presided_end company R of file round game president new (λ seat is. of_president seat) ends

  -- and of the whole turn
  pub of_game_turn : (file : List ℕ) (round : Round) (old new : Game) → IsCompanyTurn file round company old new
      → R old new
  of_game_turn file round old new turn = of_presided_turn company R of file round old new
      (λ seat is. of_president seat) turn
