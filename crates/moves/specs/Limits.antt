-- What lies beyond the rows is refused. A sale that breaks no rule is of no more shares than the seat
-- has, and a company is started at one of the six par values alone. A company pays for a private from
-- half of the face value to twice that. (That no bid under the least is obeyed is
-- `moves: LeastBidIsLeast`.)
use Rattle.std.specs.Prelude.{◌≡◌, ◌≤◌, ℕ, ◌+◌, true, None, pos, ◌≤ℤ◌}
use Rattle.events.specs.Event.{is_par_value}
use Rattle.events.specs.declared.event.Shareholder.TheVariants.{Seat as OfSeat}
use Rattle.order_grammar.specs.declared.order.Order.TheVariants.{Play}
use Rattle.order_grammar.specs.declared.play.PlayOrder.TheVariants.{Par, Sell}
use Rattle.purchases.specs.Private.{private_judgement}
use Rattle.stock_round.specs.Orders.{stock_judgement}
use Rattle.tables.specs.Roster.{face_of}
use Rattle.tables.specs.declared.roster.Company.{Company}
use Rattle.tables.specs.declared.roster.Private.{Private}
use Rattle.tables.specs.declared.seat.Seat.{Seat}
use Rattle.totals.specs.LookBack.{Game}
use Rattle.totals.specs.Shares.{shares_of}

-- a sale that breaks no rule is of no more shares than the seat has
abbrev pub SalesAreOfWhatIsHeld : Type 0
SalesAreOfWhatIsHeld =
    (game : Game) (seat : Seat) (company : Company) (shares : ℕ)
    → stock_judgement game seat None (Play (Sell company shares)) ≡ None
    → pos shares ≤ℤ shares_of game.events company (OfSeat seat)

-- a company is started at one of the six par values
abbrev pub StartsAreAtParValues : Type 0
StartsAreAtParValues =
    (game : Game) (seat : Seat) (company : Company) (price : ℕ)
    → stock_judgement game seat None (Play (Par company price)) ≡ None → is_par_value price ≡ true

-- a company pays for a private from half of the face value to twice that
abbrev pub PrivatesHaveTheirPrice : Type 0
PrivatesHaveTheirPrice =
    (game : Game) (company : Company) (private : Private) (price : ℕ)
    → private_judgement game company private price ≡ None
    → (face_of private ≤ price + price) × (price ≤ face_of private + face_of private)
