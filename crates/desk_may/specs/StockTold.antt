-- What is told of the rows of a stock round. An order that would be obeyed is told with its price. For a
-- share it is also told whether several may be bought in a turn; for a sale where the token of the company
-- is before and after it; for an exchange where the share comes from. A refused order is told with its rule
-- if it may have been expected: to start a company that is not started, at the lowest par value; to buy a
-- share of a started company from a place that has one; to sell one share, if the player has some; to
-- exchange MH, if the player owns it. A purchase is told with its cost, and if the rule is about cash, or
-- about six shares, with what the player has.
use Rattle.std.specs.Prelude.{ℕ, ◌==◌, Bool, true, false, not, ◌&&◌, if◌then◌else◌, List, Option, Some, None, ℤ, pos}
use Rattle.std.specs.Prelude.{nat_lt}
use Rattle.std.specs.Int.Signed.{lt_z}
use Rattle.certs.specs.Purchase.{cost_of}
use Rattle.certs.specs.declared.share_deal.Purchase.TheVariants as purchase
use Rattle.desk_may.specs.Told.{lacks_money}
use Rattle.desk_may.specs.declared.told.Held.{Held}
use Rattle.desk_may.specs.declared.told.Held.TheVariants.{Unsaid, YourCash, YourShares}
use Rattle.desk_may.specs.declared.told.Note.{Note}
use Rattle.desk_may.specs.declared.told.Note.TheVariants.{Nothing, Several, Falls, Source}
use Rattle.desk_may.specs.declared.told.Told.{Told}
use Rattle.desk_may.specs.declared.told.Told.TheVariants.{May, Not}
use Rattle.events.specs.Event.{place_of_source}
use Rattle.events.specs.declared.event.Event.{Event}
use Rattle.events.specs.declared.event.Shareholder.{Shareholder}
use Rattle.events.specs.declared.event.Shareholder.TheVariants.{Seat as OfSeat}
use Rattle.events.specs.declared.ruling.Refusal.{Refusal}
use Rattle.events.specs.declared.ruling.Refusal.TheVariants as refusal
use Rattle.events.specs.declared.ruling.StockRule.{StockRule}
use Rattle.events.specs.declared.ruling.StockRule.TheVariants.{OverSixShares}
use Rattle.market.specs.Moves.{fallen}
use Rattle.moves.specs.declared.row.Answer.{Answer}
use Rattle.moves.specs.declared.row.Answer.TheVariants.{Obeyed, WithConsent, Refused}
use Rattle.moves.specs.declared.row.Row.{Row}
use Rattle.order_grammar.specs.declared.order.ShareSource.{ShareSource}
use Rattle.order_grammar.specs.declared.play.PlayOrder.{PlayOrder}
use Rattle.order_grammar.specs.declared.play.PlayOrder.TheVariants.{Par, BuyShare, Sell, ExchangeMohawk}
use Rattle.stock_round.specs.Exchange.{exchange_source}
use Rattle.tables.specs.Chart.{least_par, zone_of}
use Rattle.tables.specs.declared.roster.Company.{Company}
use Rattle.tables.specs.declared.roster.Private.TheVariants.{MohawkHudson}
use Rattle.tables.specs.declared.seat.Seat.{Seat}
use Rattle.tables.specs.declared.squares.Square.{Square}
use Rattle.tables.specs.declared.squares.Zone.{Zone}
use Rattle.tables.specs.declared.squares.Zone.TheVariants.{Brown}
use Rattle.totals.specs.Bids.{free_cash_of}
use Rattle.totals.specs.LookBack.{is_owner, owner_of, Game}
use Rattle.totals.specs.Shares.{is_started, shares_of, square_of}

-- a zone is the brown one
abbrev pub is_brown_zone : Zone → Bool
is_brown_zone Brown = true
is_brown_zone other = false

-- a square, if there is one, lies there
abbrev pub is_brown_square : Option Square → Bool
is_brown_square None = false
is_brown_square (Some square) = is_brown_zone (zone_of square)

-- the token of a company is in the brown zone
abbrev pub is_brown : List Event → Company → Bool
is_brown events company = is_brown_square (square_of events company)

-- several may be bought in a turn, if the token is in the brown zone
abbrev pub several_if : Bool → Note
several_if is_brown = if is_brown then Several else Nothing

-- a fall by this many squares; a byte counts them
abbrev pub fall_from : Option Square → ℕ → Note
fall_from None shares = Nothing
fall_from (Some square) shares = Falls square (fallen (if nat_lt shares 255 then shares else 255) square)

-- where the token of a company is before a sale of this many shares, and after it
abbrev pub fall_on : List Event → Company → ℕ → Note
fall_on events company shares = fall_from (square_of events company) shares

-- what is said of an order that is obeyed
abbrev pub note_on : List Event → PlayOrder → Note
note_on events (BuyShare company from) = several_if (is_brown events company)
note_on events (Sell company shares) = fall_on events company shares
note_on events ExchangeMohawk = Source (exchange_source events)
note_on events other = Nothing

-- there are shares of a company at a place
abbrev pub has_any : List Event → Company → Shareholder → Bool
has_any events company place = lt_z (pos 0) (shares_of events company place)

-- a company is started, and shares of it are where they are to be bought
abbrev pub is_on_offer : List Event → Company → ShareSource → Bool
is_on_offer events company from = is_started events company && has_any events company (place_of_source from)

-- a seat has shares of a company
abbrev pub has_shares : List Event → Seat → Company → Bool
has_shares events seat company = has_any events company (OfSeat seat)

-- a seat owns MH
abbrev pub holds_mohawk : List Event → Seat → Bool
holds_mohawk events seat = is_owner seat (owner_of events MohawkHudson)

-- an order may have been expected
abbrev pub is_expected : List Event → Seat → PlayOrder → Bool
is_expected events seat (Par company price) = price == least_par && not (is_started events company)
is_expected events seat (BuyShare company from) = is_on_offer events company from
is_expected events seat (Sell company shares) = shares == 1 && has_shares events seat company
is_expected events seat ExchangeMohawk = holds_mohawk events seat
is_expected events seat other = false

-- what a purchase would cost
abbrev pub cost_of_order : List Event → PlayOrder → Option ℤ
cost_of_order events (Par company price) = Some (pos (cost_of events (purchase.Par company price)))
cost_of_order events (BuyShare company from) = Some (pos (cost_of events (purchase.Share company from)))
cost_of_order events other = None

-- how many shares of a company a seat has
abbrev pub shares_held : List Event → Seat → Company → Held
shares_held events seat company = YourShares (shares_of events company (OfSeat seat))

-- how many shares of the company of a purchase a seat has
abbrev pub shares_on : List Event → Seat → PlayOrder → Held
shares_on events seat (BuyShare company from) = shares_held events seat company
shares_on events seat other = Unsaid

-- that is told if the rule is that of six shares
abbrev pub held_by : List Event → Seat → PlayOrder → StockRule → Held
held_by events seat order OverSixShares = shares_on events seat order
held_by events seat order other = Unsaid

-- of a rule of a stock round
abbrev pub held_by_rule : List Event → Seat → PlayOrder → Refusal → Held
held_by_rule events seat order (refusal.Stock rule) = held_by events seat order rule
held_by_rule events seat order other = Unsaid

-- what the player has of which the rule speaks
abbrev pub held_of : Game → Seat → PlayOrder → Refusal → Held
held_of game seat order rule =
    if lacks_money rule then YourCash (free_cash_of game.seats game.events seat) else held_by_rule game.events seat order rule

-- what is told of an order that a rule refuses
abbrev pub not_told : Game → Seat → PlayOrder → Refusal → Told
not_told game seat order rule =
    Not rule (cost_of_order game.events order) (held_of game seat order rule)

-- what is told of an order of which this becomes
abbrev pub told_of_answer : Game → Seat → PlayOrder → Answer → Option Told
told_of_answer game seat order (Obeyed price) = Some (May price (note_on game.events order))
told_of_answer game seat order (WithConsent price giver sale) = None
told_of_answer game seat order (Refused rule) =
    if is_expected game.events seat order then Some (not_told game seat order rule) else None

-- what is told of a row
abbrev pub told_in_stock : Game → Seat → Row → Option Told
told_in_stock game seat row = told_of_answer game seat row.order row.answer
