-- Within a stock round the list of events grows, and its new events are still.
use Rattle.std.proofs.Common.{◌≡◌, ℕ, ◌*◌, ◌==◌, List, [], ◌∷◌, ◌++◌, Option, Some, None, refl}
use Rattle.std.specs.Prelude.{unwrap_or}
use Rattle.certs.specs.President.{successor_of}
use Rattle.certs.specs.Purchase.{market_price_of}
use Rattle.certs.specs.SaleAct.{after_sale, sold, with_president, with_successor}
use Rattle.events.specs.declared.event.Event.{Event}
use Rattle.events.specs.declared.event.Event.TheVariants as event
use Rattle.events.specs.declared.ruling.Refusal.TheVariants as refusal
use Rattle.events.specs.declared.ruling.Ruling.{Ruling}
use Rattle.events.specs.declared.ruling.Ruling.TheVariants as ruling
use Rattle.events.specs.Event.{order_obeyed}
use Rattle.totals.specs.LookBack.{Game, with_event}
use Rattle.totals.specs.Shares.{par_of, president_of, square_of}
use Rattle.market.specs.Moves.{fallen, up_of}
use Rattle.market.specs.OperatingOrder.{operating_order_of}
use Rattle.market.specs.Token.{moved_from, same_square}
use Rattle.order_grammar.specs.declared.condition.Condition.{Condition}
use Rattle.order_grammar.specs.declared.order.Order.{Order}
use Rattle.order_grammar.specs.declared.order.Order.TheVariants as order
use Rattle.order_grammar.specs.declared.order.ShareSource.{ShareSource}
use Rattle.order_grammar.specs.declared.play.PlayOrder.TheVariants as play
use Rattle.rounds.proofs.Growing.{◌⨾◌, GrowsPlainly, GrowsStill, broken_grows, by_one_event}
use Rattle.rounds.proofs.Growing.{in_either, is_still}
use Rattle.rounds.proofs.Growing.{passes_plain, passes_test, stays}
use Rattle.rounds.proofs.PlainRounds.{of_mapped, recorded_plain, ruled_plain, ruling_plain}
use Rattle.rounds.proofs.PlainRounds.{AddsPlain}
use Rattle.sheets.specs.Part.{Numbered}
use Rattle.stock_round.specs.Buy.{after_purchase, share_bought}
use Rattle.stock_round.specs.Closing.{all_risen, is_sold_out, risen}
use Rattle.stock_round.specs.Exchange.{after_exchange, exchange_source, exchanged}
use Rattle.stock_round.specs.Float.{is_to_float, with_float}
use Rattle.stock_round.specs.Orders.{after_stock_order, stock_judgement, stock_refusal}
use Rattle.stock_round.specs.Standing.{fault_of_standing}
use Rattle.stock_round.specs.StockRound.{IsStockRound}
use Rattle.stock_round.specs.Turn.{InStockTurn, after_stock_line, game_in, stock_line_ruling, stock_rules}
use Rattle.stock_round.specs.Turn.{turn_after_stock_order}
use Rattle.tables.specs.declared.roster.Company.{Company}
use Rattle.tables.specs.declared.roster.Company.TheVariants.{NewYorkCentral}
use Rattle.tables.specs.declared.round.Round.{Round}
use Rattle.tables.specs.declared.seat.Seat.{Seat}
use Rattle.tables.specs.declared.squares.Square.{Square}
use Rattle.turns.proofs.RoundLeads.{round_leads}
use Rattle.turns.proofs.Ruled.{of_ruled}
use Rattle.turns.specs.Ruling.{has_place_in_turn}

-- by the presidency of a company, where it moves from this seat, if any has it
successor_grows : (game : Game) (company : Company) (old : Option Seat) →
    GrowsPlainly is_still game.events (with_successor game company old)
successor_grows game company None = stays
successor_grows game company (Some old) =
    let new : Seat = successor_of game.seats game.events company old in
    in_either (new.0 == old.0) stays (by_one_event game.events (event.President company new) refl)

-- by a presidency that moves
president_grows : (game : Game) (company : Company) →
    GrowsPlainly is_still game.events (with_president game company).events
president_grows game company = successor_grows game company (president_of game.events company)

-- by a float
float_grows : (game : Game) (company : Company) → GrowsPlainly is_still game.events (with_float game company).events
float_grows game company =
    in_either (is_to_float game.events company)
    (by_one_event game.events (event.Floats company (10 * unwrap_or (par_of game.events company) 0)) refl ⨾
    broken_grows game.seats _)
    stays

-- by what follows from a share that a seat now has
share_grows : (game : Game) (company : Company) →
    GrowsPlainly is_still game.events (with_float (with_president game company) company).events
share_grows game company = president_grows game company ⨾ float_grows (with_president game company) company

-- by the move of a token from this square, if it is on one
pub token_grows : (move : Square → Square) (events : List Event) (company : Company) (square : Option Square) →
    GrowsPlainly is_still events (moved_from move events company square)
token_grows move events company None = stays
token_grows move events company (Some square) =
    in_either (same_square (move square) square) stays
    (by_one_event events (event.Moves company (move square)) refl)

-- by a purchase
purchase_grows : (game : Game) (seat : Seat) (company : Company) (from : ShareSource) →
    GrowsPlainly is_still game.events (after_purchase game seat company from).events
purchase_grows game seat company from =
    by_one_event game.events _ refl ⨾ share_grows (share_bought game seat company from) company

-- by a sale
pub sale_grows : (game : Game) (seat : Seat) (company : Company) (shares : ℕ) →
    GrowsPlainly is_still game.events (after_sale game seat company shares).events
sale_grows game seat company shares =
    let paid : Game = sold game seat company shares in
    let presided : List Event = (with_president paid company).events in
    by_one_event game.events (event.Sells company seat shares (shares * market_price_of game.events company))
    refl
    ⨾ broken_grows game.seats _ ⨾ president_grows paid company
    ⨾ token_grows (fallen shares) presided company (square_of presided company)

-- by an exchange
exchange_grows : (game : Game) (seat : Seat) → GrowsPlainly is_still game.events (after_exchange game seat).events
exchange_grows game seat =
    by_one_event game.events (event.Exchanged seat (exchange_source game.events)) refl
    ⨾ share_grows (exchanged game seat) NewYorkCentral

-- by an order that was obeyed
act_grows : (game : Game) (seat : Seat) (done : Order) →
    GrowsPlainly is_still game.events (after_stock_order game seat done).events
act_grows game seat (order.Play (play.Par company price)) =
    by_one_event game.events (event.Par company price) refl ⨾ by_one_event _ _ refl
    ⨾ by_one_event _ (event.President company seat) refl
act_grows game seat (order.Play (play.BuyShare company from)) = purchase_grows game seat company from
act_grows game seat (order.Play (play.Sell company shares)) = sale_grows game seat company shares
act_grows game seat (order.Play play.ExchangeMohawk) = exchange_grows game seat
act_grows game seat other = stays

-- by a line of a turn
line_grows : (seats : ℕ) (seat : Seat) (turn : InStockTurn) (line : Numbered) →
    GrowsStill turn.events (after_stock_line seats seat turn line).events
line_grows seats seat turn line =
    of_ruled (turn_after_stock_order seats seat) (stock_refusal (game_in seats turn) seat turn.actions.bought) seat turn line.number
    (λ (after : InStockTurn). GrowsStill turn.events after.events)
    (λ (ruled : Ruling) (none : order_obeyed ruled ≡ None).
    by_one_event turn.events (event.Ruled seat line.number ruled) refl)
    (λ (condition : Option Condition) (done : Order)
    (kept : stock_refusal (game_in seats turn) seat turn.actions.bought done ≡ None).
    by_one_event turn.events (event.Ruled seat line.number (ruling.Obeyed condition done)) refl
    ⨾ passes_test is_still (act_grows (with_event (game_in seats turn)
    (event.Ruled seat line.number (ruling.Obeyed condition done))) seat done))
    has_place_in_turn turn.events line

-- by the rises of companies that are sold out
rises_grow : (events : List Event) (companies : List Company) →
    GrowsPlainly is_still events (all_risen events companies)
rises_grow events [] = stays
rises_grow events (company ∷ others) =
    in_either (is_sold_out events company) (token_grows up_of events company (square_of events
    company)) stays
    ⨾ rises_grow (risen events company) others

-- a stock round adds its own ROUND event, and then events that are still
pub stock_round_still : (file : List ℕ) (round : Round) (old new : Game) → IsStockRound file round old new →
    GrowsStill (old.events ++ event.Round round ∷ []) new.events
stock_round_still =
    round_leads stock_rules GrowsStill
    (record {
      stays = λ events. stays;
      further = λ a b c one two. one ⨾ two;
      standing = λ seat events line. by_one_event events
          (event.Ruled seat line.number (ruling.Faulty (fault_of_standing line.reading))) refl;
      line = line_grows;
      passes = λ events seat. by_one_event events (event.Passes seat) refl;
      closed = λ seats events. passes_test is_still (rises_grow events (operating_order_of events));
      leaves = λ events seat lines. by_one_event events (event.Left seat lines) refl;
    })

-- a line without a condition adds but plain events, and so does the close
pub stock_adds : AddsPlain stock_rules
stock_adds =
    record {
      standing = λ seat events line plain.
          recorded_plain seat line.number (ruling.Faulty (fault_of_standing line.reading)) events refl;
      line = λ seats seat turn line plain.
          ruled_plain (turn_after_stock_order seats seat)
          (λ at done. passes_plain is_still (act_grows (game_in seats at) seat done))
          seat turn line.number (stock_line_ruling seats seat turn line)
          (ruling_plain has_place_in_turn (stock_refusal (game_in seats turn) seat turn.actions.bought) turn.events line
          plain (λ its. of_mapped refusal.Stock (λ rule. tt)
          (stock_judgement (game_in seats turn) seat turn.actions.bought its)));
      closed = λ seats events. passes_plain is_still (rises_grow events (operating_order_of
          events));
    }
