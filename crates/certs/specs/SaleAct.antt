-- What follows from a sale, event by event, each on the list that the one before left. The bank
-- pays the market price for each share, and the token then moves down as many squares. The
-- presidency passes to a seat that has strictly more shares than the president. A sale can be made
-- if the seat has the shares, the pool has room for them, a president remains and the company is
-- started.
use Rattle.std.specs.Prelude.{◌≡◌, ℕ, ◌*◌, ◌==◌, true, false, if◌then◌else◌, List, [], ◌∷◌, ◌++◌, Option, Some, None}
use Rattle.certs.specs.President.{successor_of}
use Rattle.certs.specs.Purchase.{market_price_of}
use Rattle.certs.specs.Sale.{is_not_held, is_over_five, must_stay}
use Rattle.certs.specs.declared.share_deal.Sale.{Sale}
use Rattle.events.specs.declared.event.Event.{Event}
use Rattle.events.specs.declared.event.Event.TheVariants as event
use Rattle.totals.specs.Shares.{is_started, president_of}
use Rattle.history.specs.Laws.{block_sold}
use Rattle.market.specs.Moves.{fallen}
use Rattle.totals.specs.LookBack.{Game, with_events}
use Rattle.tables.specs.declared.roster.Company.{Company}
use Rattle.market.specs.Token.{token_moved}
use Rattle.tables.specs.declared.seat.Seat.{Seat}

-- with PRESIDENT if this seat now presides in place of another
abbrev pub succeeded : List Event → Company → Seat → Seat → List Event
succeeded events company old new = if new.0 == old.0 then events else events ++ event.President company new ∷ []

-- with the presidency of a company moved, if this seat presided, if any did
abbrev pub with_successor : Game → Company → Option Seat → List Event
with_successor game company None = game.events
with_successor game company (Some old) =
    succeeded game.events company old (successor_of game.seats game.events company old)

-- with the presidency of a company moved to the seat that now has it
abbrev pub with_president : Game → Company → Game
with_president game company = with_events game (with_successor game company (president_of game.events company))

-- after a seat was paid for this many shares
abbrev pub sold : Game → Seat → Company → ℕ → Game
sold game seat company shares = block_sold game company seat shares (shares * market_price_of game.events company)

-- after a seat has sold this many shares, and what follows from it
abbrev pub after_sale : Game → Seat → Company → ℕ → Game
after_sale game seat company shares =
    token_moved (fallen shares) (with_president (sold game seat company shares) company) company

-- the seat can make a sale
pub record MaySell (game : Game) (seat : Seat) (sale : Sale) : Type 0 where
  pub held : is_not_held game.events seat sale ≡ false
  pub pool : is_over_five game.events sale ≡ false
  pub leaves : must_stay game.seats game.events seat sale None ≡ false
  pub started : is_started game.events sale.company ≡ true
