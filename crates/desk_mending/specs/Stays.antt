-- Which rules of stock rounds are broken whatever the other players order before a line in its round. It is said only if
-- nothing that they may order can make the rule hold: neither at once, nor by what it leads to for the lines above in the
-- player's own sheet. So it is judged by the game as the round began, and by what these lines might do.
use Rattle.std.specs.Prelude.{ℕ, ◌+◌, ◌*◌, ◌==◌, ◌&&◌, ◌||◌, Bool, true, false, not, nat_lt, if◌then◌else◌, List}
use Rattle.std.specs.Prelude.{Option, Some, None, ℤ, pos, ◌+ℤ◌, ◌-ℤ◌}
use Rattle.std.specs.Int.Signed.{le_z, lt_z}
use Rattle.std.specs.List.{list_all, list_any}
use Rattle.certs.specs.Counted.{counted_of, presides}
use Rattle.certs.specs.Purchase.{company_of, cost_of, is_short_of_cash, lifts_six, shares_bought}
use Rattle.certs.specs.Sale.{is_first_stock}
use Rattle.certs.specs.declared.share_deal.Purchase.{Purchase}
use Rattle.certs.specs.declared.share_deal.Purchase.TheVariants as purchase
use Rattle.certs.specs.declared.share_deal.Sale.{Sale}
use Rattle.desk_mending.specs.Written.{brings_of, lessens, sells_of}
use Rattle.events.specs.declared.event.Event.{Event}
use Rattle.events.specs.declared.event.Shareholder.TheVariants as place
use Rattle.events.specs.declared.ruling.StockRule.{StockRule}
use Rattle.events.specs.declared.ruling.StockRule.TheVariants as of_stock
use Rattle.market.specs.Moves.{fallen}
use Rattle.order_grammar.specs.declared.order.ShareSource.TheVariants as source
use Rattle.order_grammar.specs.declared.play.PlayOrder.{PlayOrder}
use Rattle.tables.specs.Chart.{zone_of}
use Rattle.tables.specs.Roster.{certificate_limit_of, companies}
use Rattle.tables.specs.declared.roster.Company.{Company}
use Rattle.tables.specs.declared.roster.Company.TheVariants.{NewYorkCentral}
use Rattle.tables.specs.declared.roster.Private.TheVariants.{MohawkHudson}
use Rattle.tables.specs.declared.seat.Seat.{Seat}
use Rattle.tables.specs.declared.squares.Square.{Square}
use Rattle.tables.specs.declared.squares.Zone.{Zone}
use Rattle.tables.specs.declared.squares.Zone.TheVariants.{White}
use Rattle.totals.specs.LookBack.{Game, is_owner, owner_of, round_of}
use Rattle.totals.specs.Shares.{is_started, president_of, shares_of, square_of}
use Rattle.totals.specs.Trains.{at_least_zero}

-- the shares of a company that are not the other players' as the round begins
abbrev pub not_theirs : List Event → Seat → Company → ℤ
not_theirs events seat company =
    (shares_of events company place.InitialOffering +ℤ shares_of events company place.BankPool)
    +ℤ shares_of events company (place.Seat seat)

-- how many other players there are at a table of this many
abbrev pub others_at : ℕ → ℕ
others_at seats = if seats == 3 then 2 else (if seats == 4 then 3 else (if seats == 5 then 4 else 5))

-- The most shares of a company that the other players may sell before a line of a turn: those that they hold as the round
-- begins, one more that each of them buys in each turn up to this one, and one for MH.
abbrev pub sold_most : Game → Seat → ℕ → Company → ℕ
sold_most game seat turn company =
    at_least_zero (pos (others_at game.seats * turn + 11) -ℤ not_theirs game.events seat company)

-- how many rows the token falls if so many shares are sold: the chart has eleven
abbrev pub rows_fallen : ℕ → ℕ
rows_fallen sold = if nat_lt sold 10 then sold else 10

-- The token of a company on this square may come to a square where this holds, if so many shares are sold. Down a column
-- the zones only deepen, from white to yellow, orange and brown, so the lowest square that it may reach decides. A company
-- without a square may be started.
abbrev pub reaches_from : (Zone → Bool) → ℕ → Option Square → Bool
reaches_from holds sold None = true
reaches_from holds sold (Some square) = holds (zone_of (fallen (rows_fallen sold) square))

-- the token of a company may come to a square where this holds before a line of a turn of a player
abbrev pub may_reach : (Zone → Bool) → Game → Seat → ℕ → Company → Bool
may_reach holds start seat turn company =
    reaches_from holds (sold_most start seat turn company) (square_of start.events company)

-- the certificates of a company in a coloured zone do not count
abbrev pub is_coloured : Zone → Bool
is_coloured White = false
is_coloured other = true

-- The limit of six shares stays broken: the player would hold more than six as the round begins,
-- sells none of the company above the line, and the token cannot come into a zone that lifts the limit.
abbrev pub six_stays : Game → Seat → List PlayOrder → ℕ → Company → ℕ → Bool
six_stays start seat above turn company shares =
    lt_z (pos 6) (shares_of start.events company (place.Seat seat) +ℤ pos shares)
    && (not (list_any (sells_of company) above)
    && not (may_reach lifts_six start seat turn company))

-- The certificates of a company that count stay as many: the player has none; or the token cannot come into a coloured zone,
-- and the player, if not the president already, has too few to become that, since then one certificate fewer counts.
abbrev pub certificates_stay : Game → Seat → ℕ → Company → Bool
certificates_stay start seat turn company =
    lt_z (shares_of start.events company (place.Seat seat)) (pos 1)
    || (not (may_reach is_coloured start seat turn company)
    && (presides seat (president_of start.events company)
    || lt_z (shares_of start.events company (place.Seat seat)) (pos 2)))

-- a certificate that is bought counts whatever others sell: that of a company that a player starts does
abbrev pub still_counts : Game → Seat → ℕ → Purchase → Bool
still_counts start seat turn (purchase.Par company price) = true
still_counts start seat turn (purchase.Share company from) =
    not (may_reach is_coloured start seat turn company)

-- none of the certificates that count can come not to count, and the one that is bought counts
abbrev pub all_count_still : Game → Seat → ℕ → Purchase → Bool
all_count_still start seat turn its =
    list_all (certificates_stay start seat turn) companies && still_counts start seat turn its

-- as many certificates of a player count as may
abbrev pub has_full_hand : Game → Seat → Bool
has_full_hand start seat = le_z (pos (certificate_limit_of start.seats)) (counted_of start.events seat)

-- The certificate limit stays reached: it is reached as the round begins, the player sells nothing above the line, and all
-- certificates still count.
abbrev pub limit_stays : Game → Seat → List PlayOrder → ℕ → Purchase → Bool
limit_stays start seat above turn its =
    has_full_hand start seat && (not (list_any lessens above) && all_count_still start seat turn its)

-- a share of the pool costs less once others have sold; the cost of others is fixed
abbrev pub has_fixed_cost : List Event → Purchase → Bool
has_fixed_cost events (purchase.Par company price) = true
has_fixed_cost events (purchase.Share company source.InitialOffering) = is_started events company
has_fixed_cost events (purchase.Share company source.BankPool) = false

-- The player stays short of cash: the cost is fixed and over the cash as the round begins, and the player sells nothing above
-- the line. Nothing else brings cash in a stock round.
abbrev pub cash_stays_short : Game → Seat → List PlayOrder → Purchase → Bool
cash_stays_short start seat above its =
    has_fixed_cost start.events its
    && (is_short_of_cash start.seats start.events seat (cost_of start.events its) && not (list_any lessens above))

-- No share comes to where it is to be bought: none returns to the initial offering, and nobody sells to the pool in SR1.
abbrev pub none_comes : List Event → Purchase → Bool
none_comes events (purchase.Par company price) = false
none_comes events (purchase.Share company source.InitialOffering) =
    lt_z (shares_of events company place.InitialOffering) (pos 1)
none_comes events (purchase.Share company source.BankPool) = is_first_stock (round_of events)

-- a company that has started stays so; others may start one that has not
abbrev pub start_stays_wrong : List Event → Purchase → Bool
start_stays_wrong events (purchase.Par company price) = is_started events company
start_stays_wrong events (purchase.Share company from) = false

-- A rule of a purchase is broken whatever others do. That the player has sold in the round depends on a sale that others can
-- hinder, by filling the pool.
abbrev pub purchase_stays : Game → Seat → List PlayOrder → ℕ → Purchase → StockRule → Bool
purchase_stays start seat above turn its of_stock.NoneThere = none_comes start.events its
purchase_stays start seat above turn its of_stock.NoParValue = true
purchase_stays start seat above turn its of_stock.WrongStart = start_stays_wrong start.events its
purchase_stays start seat above turn its of_stock.CashTooSmall = cash_stays_short start seat above its
purchase_stays start seat above turn its of_stock.CertificateLimit = limit_stays start seat above turn its
purchase_stays start seat above turn its of_stock.OverSixShares =
    six_stays start seat above turn (company_of its) (shares_bought its)
purchase_stays start seat above turn its other = false

-- Shares stay missing: none are to be sold, or more than the player holds as the round begins, and no line above brings any.
abbrev pub stays_not_held : List Event → Seat → List PlayOrder → Sale → Bool
stays_not_held events seat above sale =
    sale.shares == 0
    || (lt_z (shares_of events sale.company (place.Seat seat)) (pos sale.shares)
    && not (list_any (brings_of sale.company) above))

-- A rule of a sale is broken whatever others do. Others buy from the pool, so that it has room, but never for more than five;
-- another player may come to have two shares, and may start the company.
abbrev pub sale_stays : Game → Seat → List PlayOrder → Sale → StockRule → Bool
sale_stays start seat above sale of_stock.SaleInFirstRound = true
sale_stays start seat above sale of_stock.NotHeld = stays_not_held start.events seat above sale
sale_stays start seat above sale of_stock.PoolFull = nat_lt 5 sale.shares
sale_stays start seat above sale other = false

-- An exchange is refused whatever others do: MH is not the player's, which nobody can change in a stock round; or the limit
-- of six shares stays broken. A share of NYC may come into the pool.
abbrev pub exchange_stays : Game → Seat → List PlayOrder → ℕ → StockRule → Bool
exchange_stays start seat above turn of_stock.NoExchange =
    not (is_owner seat (owner_of start.events MohawkHudson)) || six_stays start seat above turn NewYorkCentral 1
exchange_stays start seat above turn other = false
