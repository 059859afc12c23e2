-- Each step of an opening and of a stock round only adds events at the end of the list.
use Rattle.std.proofs.Common.{◌≡◌, ℕ, zero, suc, ◌*◌, ◌==◌, Bool, true, false, List, [], ◌∷◌, ◌++◌, Option, Some, None}
use Rattle.std.proofs.Common.{append-nil, append_assoc, refl, sym, ap, ◌∙◌}
use Rattle.std.specs.Prelude.{if◌then◌else◌, unwrap_or, ◌-◌}
use Rattle.certs.specs.President.{successor_of}
use Rattle.certs.specs.Purchase.{market_price_of}
use Rattle.certs.specs.SaleAct.{after_sale, sold, with_president, with_successor}
use Rattle.events.specs.declared.event.Bid.{Bid}
use Rattle.events.specs.declared.event.Event.{Event}
use Rattle.events.specs.declared.event.Event.TheVariants as event
use Rattle.events.specs.declared.event.Holder.{Holder}
use Rattle.history.specs.Record.{after_revenues, breaks, paid_to_owner, with_broken}
use Rattle.market.specs.Moves.{fallen, up_of}
use Rattle.market.specs.OperatingOrder.{operating_order_of}
use Rattle.market.specs.Token.{moved_from, same_square}
use Rattle.privates.specs.Closing.{after_fall, all_sold, given_away, opening_round_closed}
use Rattle.privates.specs.Sale.{after_private_sale, gifts, settle_auctions, settled, settled_by, settled_of}
use Rattle.stock_round.specs.Closing.{all_risen, is_sold_out, risen, stock_round_closed}
use Rattle.stock_round.specs.Float.{is_to_float, with_float}
use Rattle.tables.specs.Roster.{privates, revenue_of}
use Rattle.tables.specs.Steps.{iterate}
use Rattle.tables.specs.declared.roster.Company.{Company}
use Rattle.tables.specs.declared.roster.Private.{Private}
use Rattle.tables.specs.declared.roster.Private.TheVariants.{SchuylkillValley}
use Rattle.tables.specs.declared.seat.Seat.{Seat}
use Rattle.tables.specs.declared.squares.Square.{Square}
use Rattle.totals.specs.Bids.{bids_on}
use Rattle.totals.specs.LookBack.{Game, cheapest_of, is_sold, owner_of, priority_of, sv_price_of}
use Rattle.totals.specs.Shares.{par_of, president_of, square_of}

-- a list goes on with more events
pub record GoesOn (old new : List Event) : Type 0 where
  pub more : List Event
  pub longer : new ≡ old ++ more

pub stays : {events : List Event} → GoesOn events events
stays {events} = record { more = []; longer = sym (append-nil events) }

infixr 20 ◌⨾◌
pub ◌⨾◌ : {a b c : List Event} → GoesOn a b → GoesOn b c → GoesOn a c
◌⨾◌ {a} first second =
    record {
      more = first.more ++ second.more;
      longer = second.longer ∙ ap (λ (list : List Event). list ++ second.more) first.longer ∙ append_assoc a first.more second.more;
    }

pub by_events : (events more : List Event) → GoesOn events (events ++ more)
by_events events more = record { more = more; longer = refl }

-- two events that are added one after another
pub both_added : (events : List Event) (first second : Event)
    → (events ++ first ∷ []) ++ second ∷ [] ≡ events ++ first ∷ second ∷ []
both_added events first second = append_assoc events (first ∷ []) (second ∷ [])

pub in_either : {old one other : List Event} (b : Bool) → GoesOn old one → GoesOn old other
    → GoesOn old (if b then one else other)
in_either true first second = first
in_either false first second = second

-- by BROKEN, where the bank breaks
by_broken : (seats : ℕ) (events : List Event) → GoesOn events (with_broken seats events)
by_broken seats events = in_either (breaks seats events) (by_events events (event.Broken ∷ [])) stays

-- by a presidency that moves
by_successor : (game : Game) (company : Company) (old : Option Seat) → GoesOn game.events (with_successor game company old)
by_successor game company None = stays
by_successor game company (Some old) =
    let new : Seat = successor_of game.seats game.events company old in
    in_either (new.0 == old.0) stays (by_events game.events (event.President company new ∷ []))

by_president : (game : Game) (company : Company) → GoesOn game.events (with_president game company).events
by_president game company = by_successor game company (president_of game.events company)

-- by a float
by_float : (game : Game) (company : Company) → GoesOn game.events (with_float game company).events
by_float game company =
    in_either (is_to_float game.events company)
    (by_events game.events (event.Floats company (10 * unwrap_or (par_of game.events company) 0) ∷ [])
    ⨾ by_broken game.seats (game.events ++ event.Floats company (10 * unwrap_or (par_of game.events company) 0) ∷ []))
    stays

-- by what follows from a share that a seat now has
pub by_share : (game : Game) (company : Company)
    → GoesOn game.events (with_float (with_president game company) company).events
by_share game company = by_president game company ⨾ by_float (with_president game company) company

-- by a move of a token
by_move : (move : Square → Square) (events : List Event) (company : Company) (square : Option Square)
    → GoesOn events (moved_from move events company square)
by_move move events company None = stays
by_move move events company (Some square) =
    in_either (same_square (move square) square) stays (by_events events (event.Moves company (move square) ∷ []))

-- by what follows once shares are sold
pub by_sold : (game : Game) (seat : Seat) (company : Company) (shares : ℕ)
    → GoesOn (game.events ++ event.Sells company seat shares (shares * market_price_of game.events company) ∷ [])
    (after_sale game seat company shares).events
by_sold game seat company shares =
    let paid : Game = sold game seat company shares in
    let presided : List Event = (with_president paid company).events in
    by_broken game.seats (game.events ++ event.Sells company seat shares (shares * market_price_of game.events company) ∷ [])
    ⨾ by_president paid company ⨾ by_move (fallen shares) presided company (square_of presided company)

-- by a sale of shares
pub by_sale : (game : Game) (seat : Seat) (company : Company) (shares : ℕ)
    → GoesOn game.events (after_sale game seat company shares).events
by_sale game seat company shares =
    by_events game.events (event.Sells company seat shares (shares * market_price_of game.events company) ∷ [])
    ⨾ by_sold game seat company shares

-- by the rises of companies that are sold out
by_rises : (events : List Event) (companies : List Company) → GoesOn events (all_risen events companies)
by_rises events [] = stays
by_rises events (company ∷ others) =
    in_either (is_sold_out events company) (by_move up_of events company (square_of events company)) stays
    ⨾ by_rises (risen events company) others

pub by_stock_close : (events : List Event) → GoesOn events (stock_round_closed events)
by_stock_close events = by_rises events (operating_order_of events)

-- by the sale of a private
by_private : (events : List Event) (private : Private) (buyer : Seat) (price : ℕ)
    → GoesOn events (after_private_sale events private buyer price)
by_private events private buyer price = by_events events (event.Sold private buyer price ∷ gifts events private buyer)

-- by the sale that follows from the bids on one
by_bids : (seats : ℕ) (events : List Event) (private : Private) (bids : List Bid)
    → GoesOn events (settled_by seats events private bids)
by_bids seats events private [] = stays
by_bids seats events private (bid ∷ []) = by_private events private bid.seat bid.amount
by_bids seats events private (bid ∷ other ∷ bids) = by_private events private _ _

by_cheapest : (seats : ℕ) (events : List Event) (cheapest : Option Private)
    → GoesOn events (settled_of seats events cheapest)
by_cheapest seats events None = stays
by_cheapest seats events (Some private) = by_bids seats events private (bids_on seats events private)

by_steps : (step : List Event → List Event) → ((events : List Event) → GoesOn events (step events)) → (count : ℕ)
    (events : List Event) → GoesOn events (iterate step count events)
by_steps step each zero events = stays
by_steps step each (suc count) events = by_steps step each count events ⨾ each (iterate step count events)

pub by_settling : (seats : ℕ) (events : List Event) → GoesOn events (settled seats events)
unfolding settled
by_settling seats events =
    by_steps (settle_auctions seats) (λ list. by_cheapest seats list (cheapest_of list)) 6 events

-- by the revenues of privates
by_revenue : (seats : ℕ) (events : List Event) (private : Private) (owner : Option Holder)
    → GoesOn events (paid_to_owner seats events private owner)
by_revenue seats events private None = stays
by_revenue seats events private (Some owner) =
    by_events events (event.Revenue private owner (revenue_of private) ∷ [])
    ⨾ by_broken seats (events ++ event.Revenue private owner (revenue_of private) ∷ [])

pub by_revenues : (seats : ℕ) (events : List Event) (paying : List Private) → GoesOn events (after_revenues seats events paying)
by_revenues seats events [] = stays
by_revenues seats events (private ∷ others) =
    by_revenue seats events private (owner_of events private)
    ⨾ by_revenues seats (paid_to_owner seats events private (owner_of events private)) others

by_fall : (seats : ℕ) (events : List Event) (price : ℕ) (holder : Seat) → GoesOn events (after_fall seats events price holder)
by_fall seats events price holder =
    in_either (price == 0)
    (by_events events (event.Price 0 ∷ []) ⨾ by_private (events ++ event.Price 0 ∷ []) SchuylkillValley holder 0
    ⨾ by_settling seats (given_away events holder))
    (by_events events (event.Price price ∷ []))

pub by_opening_close : (seats : ℕ) (events : List Event) → GoesOn events (opening_round_closed seats events)
by_opening_close seats events =
    in_either (all_sold events) stays
    (in_either (is_sold events SchuylkillValley) (by_revenues seats events privates)
    (by_fall seats events (sv_price_of events - 5) (priority_of seats events)))
