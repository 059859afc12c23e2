-- What is told of the rows of an opening. For each unsold private the player is told one order: to buy
-- the cheapest, or the lowest bid on each other one. It is told with its price if it would be obeyed, and
-- otherwise with the rule that refuses it. If the player has too little for it, its price is told, and what
-- they could spend on that private.
use Rattle.std.specs.Prelude.{◌==◌, Bool, false, not, ◌&&◌, if◌then◌else◌, List, Option, Some, None, ℤ, pos}
use Rattle.desk_may.specs.Told.{lacks_money, not_by}
use Rattle.desk_may.specs.declared.told.Held.{Held}
use Rattle.desk_may.specs.declared.told.Held.TheVariants.{Unsaid, YourCash}
use Rattle.desk_may.specs.declared.told.Note.{Note}
use Rattle.desk_may.specs.declared.told.Note.TheVariants.{Nothing, OrMore}
use Rattle.desk_may.specs.declared.told.Told.{Told}
use Rattle.desk_may.specs.declared.told.Told.TheVariants.{May, Not}
use Rattle.events.specs.declared.event.Event.{Event}
use Rattle.events.specs.declared.ruling.Refusal.{Refusal}
use Rattle.moves.specs.Bids.{least_bid_of}
use Rattle.moves.specs.declared.row.Answer.{Answer}
use Rattle.moves.specs.declared.row.Answer.TheVariants.{Obeyed, WithConsent, Refused}
use Rattle.moves.specs.declared.row.Row.{Row}
use Rattle.order_grammar.specs.declared.play.PlayOrder.{PlayOrder}
use Rattle.order_grammar.specs.declared.play.PlayOrder.TheVariants.{Bid, BuyPrivate}
use Rattle.privates.specs.Bank.{is_cheapest, price_of_private}
use Rattle.tables.specs.declared.seat.Seat.{Seat}
use Rattle.totals.specs.Bids.{free_for}
use Rattle.totals.specs.LookBack.{is_sold, Game}

-- an order is the one that an unsold private needs
abbrev pub is_asked : List Event → PlayOrder → Bool
is_asked events (BuyPrivate private) = is_cheapest events private
is_asked events (Bid private amount) =
    not (is_sold events private) && not (is_cheapest events private) && amount == least_bid_of events private
is_asked events other = false

-- what is said of one that is obeyed
abbrev pub note_on : PlayOrder → Note
note_on (Bid private amount) = OrMore
note_on other = Nothing

-- what an order costs
abbrev pub price_on : List Event → PlayOrder → Option ℤ
price_on events (BuyPrivate private) = Some (pos (price_of_private events private))
price_on events (Bid private amount) = Some (pos amount)
price_on events other = None

-- what the player can spend on the private of an order
abbrev pub cash_on : Game → Seat → PlayOrder → Held
cash_on game seat (BuyPrivate private) = YourCash (free_for game.seats game.events seat private)
cash_on game seat (Bid private amount) = YourCash (free_for game.seats game.events seat private)
cash_on game seat other = Unsaid

-- what is told of one that a rule refuses: if the player has too little, also the price and what they have
abbrev pub not_told : Game → Seat → PlayOrder → Refusal → Told
not_told game seat order rule =
    if lacks_money rule then Not rule (price_on game.events order) (cash_on game seat order) else not_by rule

-- what is told of an order of which this becomes
abbrev pub told_of_answer : Game → Seat → PlayOrder → Answer → Option Told
told_of_answer game seat order (Obeyed price) = Some (May price (note_on order))
told_of_answer game seat order (WithConsent price giver sale) = None
told_of_answer game seat order (Refused rule) = Some (not_told game seat order rule)

-- what is told of a row
abbrev pub told_in_opening : Game → Seat → Row → Option Told
told_in_opening game seat row =
    if is_asked game.events row.order then told_of_answer game seat row.order row.answer else None
