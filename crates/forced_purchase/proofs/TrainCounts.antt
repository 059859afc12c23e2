-- What a forced purchase needs, and what stays as it was while money is raised for it.
use Rattle.std.proofs.Common.{◌≡◌, ℕ, zero, suc, ◌*◌, ◌==◌, Bool, true, false, if◌then◌else◌, List, [], ◌∷◌, ◌++◌}
use Rattle.std.proofs.Common.{Option, Some, None, Result, Ok, ℤ, pos, ◌+ℤ◌, refl, ap, ◌∙◌}
use Rattle.std.specs.Int.Signed.{lt_z}
use Rattle.certs.specs.SaleAct.{after_sale, sold, with_president, with_successor}
use Rattle.certs.specs.President.{successor_of}
use Rattle.certs.specs.Purchase.{market_price_of}
use Rattle.certs.specs.declared.share_deal.Sale.{Sale}
use Rattle.events.specs.Event.{train_owner_place, train_moved}
use Rattle.events.specs.declared.event.Event.{Event}
use Rattle.events.specs.declared.event.Event.TheVariants as event
use Rattle.events.specs.declared.ruling.Refusal.{Refusal}
use Rattle.events.specs.declared.ruling.Ruling.TheVariants.{Obeyed, Refused}
use Rattle.totals.proofs.EventAtEnd.{trains_at_before}
use Rattle.totals.specs.LookBack.{Game, with_event}
use Rattle.totals.specs.Shares.{president_of, square_of}
use Rattle.history.specs.Record.{breaks, with_broken}
use Rattle.totals.specs.Trains.{train_count, trains_held, trains_of_kinds}
use Rattle.market.specs.Moves.{fallen}
use Rattle.market.specs.Token.{moved_from, same_square}
use Rattle.forced_purchase.specs.Forced.{next_to_sell, sold_further, sold_singly, with_one_sold}
use Rattle.forced_purchase.specs.Raise.{after_raise_line, after_raises, raise_judgement, raise_ruled}
use Rattle.forced_purchase.specs.Shortfall.{falls_short}
use Rattle.purchases.specs.Train.{has_trains}
use Rattle.forced_purchase.specs.declared.operator.Operator.{Operator}
use Rattle.order_grammar.specs.declared.fault.Fault.{Fault}
use Rattle.order_grammar.specs.declared.order.Order.{Order}
use Rattle.order_grammar.specs.declared.order.Order.TheVariants as order
use Rattle.order_grammar.specs.declared.play.PlayOrder.TheVariants as play
use Rattle.sheets.specs.Part.{Numbered}
use Rattle.tables.specs.Steps.{iterate}
use Rattle.tables.specs.Train.{kinds}
use Rattle.tables.specs.declared.rolling_stock.Kind.{Kind}
use Rattle.tables.specs.declared.roster.Company.{Company}
use Rattle.tables.specs.declared.seat.Seat.{Seat}
use Rattle.tables.specs.declared.squares.Square.{Square}

-- where no train moves, each has as many
kinds_before : (events : List Event) (event : Event) (owner : Option Company) (some : List Kind)
    → train_moved event ≡ None → trains_of_kinds (events ++ event ∷ []) owner some ≡ trains_of_kinds events owner some
kinds_before events event owner [] none = refl
kinds_before events event owner (kind ∷ others) none =
    ap (λ (n : ℤ). n +ℤ trains_of_kinds (events ++ event ∷ []) owner others)
    (trains_at_before events event (train_owner_place owner) kind none)
    ∙ ap (λ (n : ℤ). trains_held events owner kind +ℤ n) (kinds_before events event owner others none)

pub size_before : (events : List Event) (event : Event) (owner : Option Company) → train_moved event ≡ None
    → train_count (events ++ event ∷ []) owner ≡ train_count events owner
size_before events event owner none = kinds_before events event owner kinds none

module _ (owner : Option Company) where
  abbrev size : List Event → ℤ
  size events = train_count events owner

  -- of two lists either has as many
  size_if : (b : Bool) (some others old : List Event) → size some ≡ size old → size others ≡ size old
      → size (if b then some else others) ≡ size old
  size_if true some others old first second = first
  size_if false some others old first second = second

  size_broken : (seats : ℕ) (events : List Event) → size (with_broken seats events) ≡ size events
  size_broken seats events = size_if (breaks seats events) (events ++ event.Broken ∷ []) events events
      (size_before events event.Broken owner refl) refl

  size_succession : (game : Game) (company : Company) (old : Option Seat)
      → size (with_successor game company old) ≡ size game.events
  size_succession game company None = refl
  size_succession game company (Some old) =
      let events = game.events in
      let new : Seat = successor_of game.seats events company old in
      size_if (new.0 == old.0) events (events ++ event.President company new ∷ []) events refl
      (size_before events (event.President company new) owner refl)

  size_move : (move : Square → Square) (events : List Event) (company : Company) (square : Option Square)
      → size (moved_from move events company square) ≡ size events
  size_move move events company None = refl
  size_move move events company (Some square) =
      size_if (same_square (move square) square) events (events ++ event.Moves company (move square) ∷ []) events refl
      (size_before events (event.Moves company (move square)) owner refl)

  -- a sale moves no train
  pub size_sale : (game : Game) (seat : Seat) (company : Company) (shares : ℕ)
      → size (after_sale game seat company shares).events ≡ size game.events
  size_sale game seat company shares =
      let sells : Event = event.Sells company seat shares (shares * market_price_of game.events company) in
      let paid : Game = sold game seat company shares in
      let led : List Event = (with_president paid company).events in
      size_move (fallen shares) led company (square_of led company)
      ∙ size_succession paid company (president_of paid.events company)
      ∙ size_broken game.seats (game.events ++ sells ∷ [])
      ∙ size_before game.events sells owner refl

  size_raise_ruled : (by : Operator) (game : Game) (line : Numbered) (sale : Sale) (broken : Option Refusal)
      → size (raise_ruled by game line sale broken).events ≡ size game.events
  size_raise_ruled by game line sale None =
      let ruled : Event = event.Ruled by.president line.number
      (Obeyed line.condition (order.Play (play.Raise sale.company sale.shares))) in
      size_sale (with_event game ruled) by.president sale.company sale.shares
      ∙ size_before game.events ruled owner refl
  size_raise_ruled by game line sale (Some rule) =
      size_before game.events (event.Ruled by.president line.number
      (Refused rule line.condition (order.Play (play.Raise sale.company sale.shares)))) owner refl

  size_raise_line : (due : Bool) (by : Operator) (game : Game) (line : Numbered) (reading : Result Order Fault)
      → size (after_raise_line due by game line reading).events ≡ size game.events
  size_raise_line due by game line (Ok (order.Play (play.Raise company shares))) =
      let sale : Sale = record { company = company; shares = shares } in
      size_raise_ruled by game line sale (raise_judgement due by game line.condition sale)
  size_raise_line due by game line other = refl

  -- nor do the RAISE lines of a company's orders
  pub size_raises : (due : Bool) (by : Operator) (lines : List Numbered) (game : Game)
      → size (after_raises due by game lines).events ≡ size game.events
  size_raises due by [] game = refl
  size_raises due by (line ∷ lines) game =
      size_raises due by lines (after_raise_line due by game line line.reading)
      ∙ size_raise_line due by game line line.reading

  size_one_sold : (by : Operator) (game : Game) (found : Option Company)
      → size (with_one_sold by game found).events ≡ size game.events
  size_one_sold by game None = refl
  size_one_sold by game (Some company) = size_sale game by.president company 1

  size_further : (by : Operator) (game : Game) → size (sold_further by game).events ≡ size game.events
  unfolding sold_further
  size_further by game =
      elim (falls_short by game) as (λ (b : Bool). size
      (if b then with_one_sold by game (next_to_sell by game) else game).events ≡ size game.events) [
        | true ↦ size_one_sold by game (next_to_sell by game)
        | false ↦ refl
      ]

  size_steps : (by : Operator) (n : ℕ) (game : Game) → size (iterate (sold_further by) n game).events ≡ size game.events
  size_steps by zero game = refl
  size_steps by (suc n) game = size_further by (iterate (sold_further by) n game) ∙ size_steps by n game

  -- nor do the sales of single shares
  pub size_singly : (by : Operator) (game : Game) → size (sold_singly by game).events ≡ size game.events
  unfolding sold_singly
  size_singly by game = size_steps by 40 game

-- so a company without a train still has none once the money is raised
pub still_none : (by : Operator) (lines : List Numbered) (old recorded raised sold : Game)
    → recorded ≡ with_event old (event.Forced by.company) → raised ≡ after_raises true by recorded lines
    → sold ≡ sold_singly by raised → has_trains old.events by.company ≡ false
    → has_trains sold.events by.company ≡ false
still_none by lines old recorded raised sold is_recorded is_raised is_sold none =
    let owner : Option Company = Some by.company in
    ap (lt_z (pos 0))
    (ap (λ (game : Game). train_count game.events owner) is_sold
    ∙ size_singly owner by raised
    ∙ ap (λ (game : Game). train_count game.events owner) is_raised
    ∙ size_raises owner true by lines recorded
    ∙ ap (λ (game : Game). train_count game.events owner) is_recorded
    ∙ size_before old.events (event.Forced by.company) owner refl)
    ∙ none
