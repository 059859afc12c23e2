-- The rules of a purchase in a stock round. A seat sets the par value of a company that is not
-- started, and so buys its president's certificate, two shares. Or it buys a share of one that is
-- started, at the par value from the initial offering, at the market price from the bank pool. It
-- buys nothing of a company of which it has sold in this round. It holds no more certificates that
-- count than the limit, and no more than six shares of a company, and buys once in a turn. The zone
-- of the company's square before the purchase may lift this. Then the certificates do not count,
-- the limit of six shares does not hold, or several may be bought in a turn.
use Rattle.std.specs.Prelude.{ℕ, ◌*◌, Bool, true, false, not, ◌&&◌, List, [], ◌∷◌, Option, Some, None, Result, Ok, Err}
use Rattle.std.specs.Prelude.{pos, ◌+ℤ◌, unwrap_or}
use Rattle.std.specs.Int.Signed.{le_z, lt_z}
use Rattle.certs.specs.Counted.{counted_of, counts_on}
use Rattle.certs.specs.declared.share_deal.Purchase.{Purchase}
use Rattle.certs.specs.declared.share_deal.Purchase.TheVariants.{Par, Share}
use Rattle.events.specs.Event.{is_par_value, place_of_source}
use Rattle.events.specs.declared.event.Event.{Event}
use Rattle.events.specs.declared.event.Shareholder.TheVariants.{Seat as OfSeat}
use Rattle.events.specs.declared.ruling.StockRule.{StockRule}
use Rattle.events.specs.declared.ruling.StockRule.TheVariants.{SoldInRound, NoneThere, NoParValue, WrongStart}
use Rattle.events.specs.declared.ruling.StockRule.TheVariants.{CashTooSmall, CertificateLimit, OverSixShares}
use Rattle.events.specs.declared.ruling.StockRule.TheVariants.{BoughtBefore}
use Rattle.totals.specs.Bids.{free_cash_of}
use Rattle.totals.specs.Shares.{has_sold_in_round, is_started, par_of, shares_of, square_of}
use Rattle.order_grammar.specs.declared.order.ShareSource.{ShareSource}
use Rattle.order_grammar.specs.declared.order.ShareSource.TheVariants.{InitialOffering, BankPool}
use Rattle.tables.specs.Chart.{price_of, zone_of}
use Rattle.tables.specs.Roster.{certificate_limit_of, same_company}
use Rattle.tables.specs.Rules.{Rule, first_broken}
use Rattle.tables.specs.declared.roster.Company.{Company}
use Rattle.tables.specs.declared.seat.Seat.{Seat}
use Rattle.tables.specs.declared.squares.Square.{Square}
use Rattle.tables.specs.declared.squares.Zone.{Zone}
use Rattle.tables.specs.declared.squares.Zone.TheVariants.{Orange, Brown}

-- the company whose share is bought
abbrev pub company_of : Purchase → Company
company_of (Par company price) = company
company_of (Share company from) = company

-- how many shares are bought: a president's certificate has two
abbrev pub shares_bought : Purchase → ℕ
shares_bought (Par company price) = 2
shares_bought (Share company from) = 1

-- the price of a square; without one there is none
abbrev pub price_on : Option Square → ℕ
price_on None = 0
price_on (Some square) = price_of square

-- the market price of a company
abbrev pub market_price_of : List Event → Company → ℕ
market_price_of events company = price_on (square_of events company)

-- what a share costs: the par value in the initial offering, the market price in the pool
abbrev pub share_price_of : List Event → Company → ShareSource → ℕ
share_price_of events company InitialOffering = unwrap_or (par_of events company) 0
share_price_of events company BankPool = market_price_of events company

-- what a purchase costs: a president's certificate twice the par value
abbrev pub cost_of : List Event → Purchase → ℕ
cost_of events (Par company price) = 2 * price
cost_of events (Share company from) = share_price_of events company from

-- the limit of six shares does not hold in a zone: the orange or the brown
abbrev pub lifts_six : Zone → Bool
lifts_six Orange = true
lifts_six Brown = true
lifts_six other = false

-- several certificates of a company may be bought in a turn in a zone: the brown
abbrev pub allows_several : Zone → Bool
allows_several Brown = true
allows_several other = false

-- something holds in the zone of a square; without a square it does not
abbrev pub holds_in_zone : (Zone → Bool) → Option Square → Bool
holds_in_zone holds None = false
holds_in_zone holds (Some square) = holds (zone_of square)

-- no share is left where one is to be bought
unfoldable pub is_sold_out_there : List Event → Purchase → Bool
is_sold_out_there events (Par company price) = false
is_sold_out_there events (Share company from) = lt_z (shares_of events company (place_of_source from)) (pos 1)

-- the sum that is to be the par value is none of the six
abbrev pub is_no_par : Purchase → Bool
is_no_par (Par company price) = not (is_par_value price)
is_no_par (Share company from) = false

-- a par value is set for a company that is started, or a share is bought of one that is not
abbrev pub is_wrong_start : List Event → Purchase → Bool
is_wrong_start events (Par company price) = is_started events company
is_wrong_start events (Share company from) = not (is_started events company)

-- the cost is over the seat's cash minus its bids
unfoldable pub is_short_of_cash : ℕ → List Event → Seat → ℕ → Bool
is_short_of_cash seats events seat cost = lt_z (free_cash_of seats events seat) (pos cost)

-- the certificate counts, and the seat has reached the limit
unfoldable pub is_at_limit : ℕ → List Event → Seat → Company → Bool
is_at_limit seats events seat company =
    counts_on (square_of events company) && le_z (pos (certificate_limit_of seats)) (counted_of events seat)

-- with this many more shares the seat would have more than six of a company, and the zone does not lift
-- that limit
unfoldable pub is_over_six : List Event → Seat → Company → ℕ → Bool
is_over_six events seat company shares = not (holds_in_zone lifts_six (square_of events company))
    && lt_z (pos 6) (shares_of events company (OfSeat seat) +ℤ pos shares)

-- the seat has bought already in this turn, and this is not one of several
unfoldable pub is_second : List Event → Company → Option Company → Bool
is_second events company None = false
is_second events company (Some bought) =
    not (same_company company bought && holds_in_zone allows_several (square_of events company))

-- The rules that a purchase may break, in a turn in which the seat has bought of this company, if
-- it has bought. They are:
--
-- - the seat has sold of the company in this round;
-- - no share is there;
-- - the sum is no par value;
-- - the company is started, or is not;
-- - the cost is over the seat's cash;
-- - the certificate counts, and the limit is reached;
-- - the seat would have more than six shares;
-- - it has bought already.
abbrev pub share_purchase_rules : ℕ → List Event → Seat → Purchase → Option Company → List (Rule StockRule)
share_purchase_rules seats events seat purchase bought =
    record { code = SoldInRound; broken = has_sold_in_round events (company_of purchase) seat }
    ∷ record { code = NoneThere; broken = is_sold_out_there events purchase }
    ∷ record { code = NoParValue; broken = is_no_par purchase }
    ∷ record { code = WrongStart; broken = is_wrong_start events purchase }
    ∷ record { code = CashTooSmall; broken = is_short_of_cash seats events seat (cost_of events purchase) }
    ∷ record { code = CertificateLimit; broken = is_at_limit seats events seat (company_of purchase) }
    ∷ record { code = OverSixShares; broken = is_over_six events seat (company_of purchase) (shares_bought purchase) }
    ∷ record { code = BoughtBefore; broken = is_second events (company_of purchase) bought } ∷ []

-- the first rule that a purchase breaks
unfoldable pub purchase_judgement : ℕ → List Event → Seat → Purchase → Option Company → Option StockRule
purchase_judgement seats events seat purchase bought =
    first_broken (share_purchase_rules seats events seat purchase bought)

-- a deal is allowed that breaks no rule
abbrev pub allowed : Option StockRule → Result (Unit {0}) StockRule
allowed None = Ok tt
allowed (Some rule) = Err rule
