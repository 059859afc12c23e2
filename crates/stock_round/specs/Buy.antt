-- BUY: a seat buys a share of a company that is started. One of the initial offering costs the par
-- value, one of the bank pool the market price. Its rules are those of a purchase, which are defined
-- with the certificates, and so is the presidency that passes to a seat that then has strictly more
-- shares than the president.
use Rattle.std.specs.Prelude.{◌≡◌, true, false}
use Rattle.certs.specs.Purchase.{is_sold_out_there, is_short_of_cash, share_price_of}
use Rattle.certs.specs.SaleAct.{with_president}
use Rattle.certs.specs.declared.share_deal.Purchase.TheVariants as purchase
use Rattle.events.specs.declared.event.Event.TheVariants as event
use Rattle.totals.specs.LookBack.{Game, with_event}
use Rattle.totals.specs.Shares.{is_started}
use Rattle.order_grammar.specs.declared.order.ShareSource.{ShareSource}
use Rattle.stock_round.specs.Float.{with_float}
use Rattle.tables.specs.declared.roster.Company.{Company}
use Rattle.tables.specs.declared.seat.Seat.{Seat}

-- the seat can buy a share of the company from there
pub record MayBuy (game : Game) (seat : Seat) (company : Company) (from : ShareSource) : Type 0 where
  pub there : is_sold_out_there game.events (purchase.Share company from) ≡ false
  pub started : is_started game.events company ≡ true
  pub pays : is_short_of_cash game.seats game.events seat (share_price_of game.events company from) ≡ false

-- after a seat has paid for a share
abbrev pub share_bought : Game → Seat → Company → ShareSource → Game
share_bought game seat company from =
    with_event game (event.Bought company seat 1 from (share_price_of game.events company from))

-- after a seat has bought a share, and what follows from it
abbrev pub after_purchase : Game → Seat → Company → ShareSource → Game
after_purchase game seat company from =
    with_float (with_president (share_bought game seat company from) company) company
