-- Which rules of an opening are broken whatever the other players order before a line in its round. They are judged by the game
-- as the round begins.
--
-- A private that is sold stays so. No bid is ever taken back. Nothing brings cash before the turns are over, and the price of SV
-- falls only then; but what is bid on other privates comes free when these are sold. If the cheapest private is sold, the next
-- one is the cheapest; then no bid for the sold one is obeyed.
use Rattle.std.specs.Prelude.{ℕ, Bool, true, false, List, pos}
use Rattle.std.specs.Int.Signed.{lt_z}
use Rattle.events.specs.Event.{party_at}
use Rattle.events.specs.declared.event.Event.{Event}
use Rattle.events.specs.declared.ruling.OpeningRule.{OpeningRule}
use Rattle.events.specs.declared.ruling.OpeningRule.TheVariants as of_opening
use Rattle.order_grammar.specs.declared.play.PlayOrder.{PlayOrder}
use Rattle.order_grammar.specs.declared.play.PlayOrder.TheVariants as play
use Rattle.privates.specs.Bank.{is_cheapest, price_of_private}
use Rattle.privates.specs.Bid.{is_too_low}
use Rattle.tables.specs.declared.seat.Seat.{Seat}
use Rattle.totals.specs.LookBack.{Game, cash_of, is_sold}

-- the private of the order is sold
abbrev pub stays_sold : List Event → PlayOrder → Bool
stays_sold events (play.BuyPrivate private) = is_sold events private
stays_sold events (play.Bid private amount) = is_sold events private
stays_sold events (play.Limit private amount) = is_sold events private
stays_sold events other = false

-- the bid is less than 5 above the face value, or above an earlier bid
abbrev pub stays_too_low : List Event → PlayOrder → Bool
stays_too_low events (play.Bid private amount) = is_too_low events private amount
stays_too_low events other = false

-- a player has less than a sum
abbrev pub has_less : Game → Seat → ℕ → Bool
has_less start seat sum = lt_z (cash_of start.seats start.events (party_at seat)) (pos sum)

-- the order costs more than the player has, with all that is bid on other privates
abbrev pub stays_beyond_cash : Game → Seat → PlayOrder → Bool
stays_beyond_cash start seat (play.BuyPrivate private) = has_less start seat (price_of_private start.events private)
stays_beyond_cash start seat (play.Bid private amount) = has_less start seat amount
stays_beyond_cash start seat other = false

-- the bid is for the cheapest private
abbrev pub stays_for_cheapest : List Event → PlayOrder → Bool
stays_for_cheapest events (play.Bid private amount) = is_cheapest events private
stays_for_cheapest events other = false

-- A rule of an opening is broken whatever others do. They may buy what is cheaper.
abbrev pub opening_stays : Game → Seat → PlayOrder → OpeningRule → Bool
opening_stays start seat order of_opening.NotOfOpening = true
opening_stays start seat order of_opening.Sold = stays_sold start.events order
opening_stays start seat order of_opening.NotCheapest = false
opening_stays start seat order of_opening.BidTooLow = stays_too_low start.events order
opening_stays start seat order of_opening.CashTooSmall = stays_beyond_cash start seat order
opening_stays start seat order of_opening.TurnUsed = false
opening_stays start seat order of_opening.BidForCheapest = stays_for_cheapest start.events order
