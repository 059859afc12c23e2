-- The rules of a sale. From the second stock round on a seat sells shares that it has, as one
-- block, to the bank pool, which holds at most five of a company. Presidents sell only while they
-- keep two shares, or another seat has two and can preside. For a president who sells to pay for a
-- company's train there is one more rule. They sell no shares of that company if another seat would
-- then have strictly more of them, since its presidency would move.
use Rattle.std.specs.Prelude.{ℕ, ◌==◌, Bool, false, not, ◌&&◌, ◌||◌, List, [], ◌∷◌, Option, Some, None, pos, ℤ, ◌+ℤ◌}
use Rattle.std.specs.Prelude.{◌-ℤ◌}
use Rattle.std.specs.Int.Signed.{le_z, lt_z}
use Rattle.certs.specs.Counted.{presides}
use Rattle.certs.specs.President.{others_from}
use Rattle.certs.specs.declared.share_deal.Sale.{Sale}
use Rattle.events.specs.declared.event.Event.{Event}
use Rattle.events.specs.declared.event.Shareholder.TheVariants.{BankPool, Seat as OfSeat}
use Rattle.events.specs.declared.ruling.StockRule.{StockRule}
use Rattle.events.specs.declared.ruling.StockRule.TheVariants.{SaleInFirstRound, NotHeld, PoolFull, PresidentMustStay}
use Rattle.events.specs.declared.ruling.StockRule.TheVariants.{WrongStart}
use Rattle.totals.specs.LookBack.{round_of}
use Rattle.totals.specs.Shares.{is_started, president_of, shares_of}
use Rattle.tables.specs.Roster.{same_company}
use Rattle.tables.specs.Rules.{Rule, first_broken}
use Rattle.tables.specs.declared.roster.Company.{Company}
use Rattle.tables.specs.declared.round.Round.{Round}
use Rattle.tables.specs.declared.round.Round.TheVariants.{Stock}
use Rattle.tables.specs.declared.seat.Seat.{Seat}

-- it is the first stock round
abbrev pub is_first_stock : Option Round → Bool
is_first_stock (Some (Stock set)) = set == 1
is_first_stock other = false

-- no shares are to be sold, or more than the seat has
unfoldable pub is_not_held : List Event → Seat → Sale → Bool
is_not_held events seat sale = sale.shares == 0 || lt_z (shares_of events sale.company (OfSeat seat)) (pos sale.shares)

-- the bank pool would hold more than five shares of the company
unfoldable pub is_over_five : List Event → Sale → Bool
is_over_five events sale = lt_z (pos 5) (shares_of events sale.company BankPool +ℤ pos sale.shares)

-- what the seat keeps of the company
abbrev pub kept_after : List Event → Seat → Sale → ℤ
kept_after events seat sale = shares_of events sale.company (OfSeat seat) -ℤ pos sale.shares

-- one of these seats has at least this many shares of a company
abbrev pub one_has : List Event → Company → ℤ → List Seat → Bool
one_has events company least [] = false
one_has events company least (seat ∷ others) =
    le_z least (shares_of events company (OfSeat seat)) || one_has events company least others

-- another seat has at least this many
abbrev pub another_has : ℕ → List Event → Company → Seat → ℤ → Bool
another_has seats events company seat least = one_has events company least (others_from seats seat)

-- the president would keep fewer than two shares, and no other seat has two
abbrev pub none_is_left : ℕ → List Event → Seat → Sale → Bool
none_is_left seats events seat sale =
    lt_z (kept_after events seat sale) (pos 2) && not (another_has seats events sale.company seat (pos 2))

-- the sale is of the operating company, if one operates, and another seat would have strictly more
-- of it
abbrev pub moves_operating : ℕ → List Event → Seat → Sale → Option Company → Bool
moves_operating seats events seat sale None = false
moves_operating seats events seat sale (Some operating) =
    same_company operating sale.company && another_has seats events sale.company seat
    (kept_after events seat sale +ℤ pos 1)

-- the seat presides over the company, and may not sell this many of its shares
unfoldable pub must_stay : ℕ → List Event → Seat → Sale → Option Company → Bool
must_stay seats events seat sale operating = presides seat (president_of events sale.company)
    && (none_is_left seats events seat sale || moves_operating seats events seat sale operating)

-- The rules that a sale may break, with the company that operates, if the sale is to pay for a
-- train. They are:
--
-- - it is the first stock round;
-- - no shares are to be sold, or more than the seat has;
-- - the pool would hold more than five;
-- - the president must stay;
-- - the company is not started.
abbrev pub sale_rules : ℕ → List Event → Seat → Sale → Option Company → List (Rule StockRule)
sale_rules seats events seat sale operating =
    record { code = SaleInFirstRound; broken = is_first_stock (round_of events) }
    ∷ record { code = NotHeld; broken = is_not_held events seat sale }
    ∷ record { code = PoolFull; broken = is_over_five events sale }
    ∷ record { code = PresidentMustStay; broken = must_stay seats events seat sale operating }
    ∷ record { code = WrongStart; broken = not (is_started events sale.company) } ∷ []

-- the first rule that a sale breaks
unfoldable pub sale_judgement : ℕ → List Event → Seat → Sale → Option Company → Option StockRule
sale_judgement seats events seat sale operating = first_broken (sale_rules seats events seat sale operating)
