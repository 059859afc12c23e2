-- PAR: a seat sets the par value of a company that is not started, and so buys its president's
-- certificate, two shares of the initial offering, each at that value. It then presides. Its rules
-- are those of a purchase, which are defined with the certificates.
use Rattle.std.specs.Prelude.{◌≡◌, ℕ, ◌*◌, false}
use Rattle.certs.specs.Purchase.{is_no_par, is_short_of_cash}
use Rattle.certs.specs.declared.share_deal.Purchase.TheVariants as purchase
use Rattle.events.specs.declared.event.Event.TheVariants as event
use Rattle.totals.specs.LookBack.{Game, with_event}
use Rattle.totals.specs.Shares.{is_started}
use Rattle.order_grammar.specs.declared.order.ShareSource.TheVariants.{InitialOffering}
use Rattle.tables.specs.declared.roster.Company.{Company}
use Rattle.tables.specs.declared.seat.Seat.{Seat}

-- the shares of a president's certificate
abbrev pub president_shares : ℕ
president_shares = 2

-- the seat can start the company at this par value
pub record MayStart (game : Game) (seat : Seat) (company : Company) (price : ℕ) : Type 0 where
  pub par : is_no_par (purchase.Par company price) ≡ false
  pub fresh : is_started game.events company ≡ false
  pub pays : is_short_of_cash game.seats game.events seat (president_shares * price) ≡ false

-- after a seat has set a company's par value, and so bought its president's certificate
abbrev pub after_start : Game → Seat → Company → ℕ → Game
after_start game seat company price = with_event (with_event (with_event game (event.Par company price))
    (event.Bought company seat president_shares InitialOffering (president_shares * price)))
    (event.President company seat)
