-- Tables of what a game says of its companies: the rows of their shares.
use Rattle.std.proofs.Common.{◌≡◌, ℕ, zero, suc, ◌+◌, ◌<◌, List, [], ◌∷◌, ℤ, pos, get_or, arith}
use Rattle.std.proofs.lemmas.Int.{ints}
use Rattle.certs.proofs.RowLemmas.{bounded_of}
use Rattle.certs.specs.CompanyTables.{AreSharesOf, IsRowOf}
use Rattle.certs.specs.ShareRow.{IsBounded}
use Rattle.events.specs.declared.event.Event.{Event}
use Rattle.events.specs.declared.event.Shareholder.TheVariants.{InitialOffering, BankPool, Seat as OfSeat}
use Rattle.totals.specs.LookBack.{IsModerate}
use Rattle.totals.specs.Shares.{shares_of}
use Rattle.tables.specs.Seat.{seat_at}
use Rattle.tables.specs.declared.roster.Company.{Company}
use Rattle.tables.specs.declared.roster.Company.TheVariants.{Pennsylvania, NewYorkCentral, CanadianPacific}
use Rattle.tables.specs.declared.roster.Company.TheVariants.{BaltimoreOhio, ChesapeakeOhio, Erie, NewHaven, BostonMaine}
use mir.Syntax.{w128}
use mir.Val.{of_z, to_z}

-- a moderate number is the one that keeps it
pub kept_is : (n shares : ℤ) → IsModerate n → n ≡ shares → to_z w128 (of_z w128 n) ≡ shares
kept_is n shares moderate is = omega (arith, ints, moderate.not_under, moderate.not_over, is)

-- and stays moderate
pub kept_moderate : (n : ℤ) → IsModerate n → IsModerate (to_z w128 (of_z w128 n))
kept_moderate n moderate = record {
  not_under = omega (arith, ints, moderate.not_under, moderate.not_over);
  not_over = omega (arith, ints, moderate.not_under, moderate.not_over);
}

-- a row of eight
abbrev pub row_of_eight : ℤ → ℤ → ℤ → ℤ → ℤ → ℤ → ℤ → ℤ → List ℤ
row_of_eight a b c d e f g h = a ∷ b ∷ c ∷ d ∷ e ∷ f ∷ g ∷ h ∷ []

-- whose entries are moderate is so at each place
moderate_at :
    (a b c d e f g h : ℤ) → IsModerate a → IsModerate b → IsModerate c → IsModerate d → IsModerate e → IsModerate f
    → IsModerate g → IsModerate h → (i : ℕ) →
    IsModerate (get_or (row_of_eight a b c d e f g h) i (pos 0))
moderate_at a b c d e f g h of_a of_b of_c of_d of_e of_f of_g of_h zero = of_a
moderate_at a b c d e f g h of_a of_b of_c of_d of_e of_f of_g of_h (suc zero) = of_b
moderate_at a b c d e f g h of_a of_b of_c of_d of_e of_f of_g of_h (suc (suc zero)) = of_c
moderate_at a b c d e f g h of_a of_b of_c of_d of_e of_f of_g of_h (suc (suc (suc zero))) = of_d
moderate_at a b c d e f g h of_a of_b of_c of_d of_e of_f of_g of_h (suc (suc (suc (suc zero)))) = of_e
moderate_at a b c d e f g h of_a of_b of_c of_d of_e of_f of_g of_h (suc (suc (suc (suc (suc zero))))) = of_f
moderate_at a b c d e f g h of_a of_b of_c of_d of_e of_f of_g of_h (suc (suc (suc (suc (suc (suc zero)))))) = of_g
moderate_at a b c d e f g h of_a of_b of_c of_d of_e of_f of_g of_h (suc (suc (suc (suc (suc (suc (suc zero))))))) =
    of_h
moderate_at a b c d e f g h of_a of_b of_c of_d of_e of_f of_g of_h (suc (suc (suc (suc (suc (suc (suc (suc i)))))))) =
    record { not_under = omega (arith, ints); not_over = omega (arith, ints) }

-- and bounded
pub row_bounded :
    (a b c d e f g h : ℤ) → IsModerate a → IsModerate b → IsModerate c → IsModerate d → IsModerate e → IsModerate f
    → IsModerate g → IsModerate h →
    IsBounded (row_of_eight a b c d e f g h)
row_bounded a b c d e f g h of_a of_b of_c of_d of_e of_f of_g of_h =
    bounded_of (row_of_eight a b c d e f g h) (omega arith)
    (moderate_at a b c d e f g h of_a of_b of_c of_d of_e of_f of_g of_h)

-- the shares of a company at a seat
abbrev shares_with : List Event → Company → ℕ → ℤ
shares_with events company number = shares_of events company (OfSeat (seat_at number))

-- seat by seat
with_seat :
    (events : List Event) (company : Company) (a b c d e f g h : ℤ) → c ≡ shares_with events company 0
    → d ≡ shares_with events company 1 →
    e ≡ shares_with events company 2 → f ≡ shares_with events company 3 → g ≡ shares_with events company 4
    → h ≡ shares_with events company 5 → (number : ℕ) →
    number < 6 → get_or (row_of_eight a b c d e f g h) (2 + number) (pos 0) ≡ shares_with events company number
with_seat events company a b c d e f g h s0 s1 s2 s3 s4 s5 zero low = s0
with_seat events company a b c d e f g h s0 s1 s2 s3 s4 s5 (suc zero) low = s1
with_seat events company a b c d e f g h s0 s1 s2 s3 s4 s5 (suc (suc zero)) low = s2
with_seat events company a b c d e f g h s0 s1 s2 s3 s4 s5 (suc (suc (suc zero))) low = s3
with_seat events company a b c d e f g h s0 s1 s2 s3 s4 s5 (suc (suc (suc (suc zero)))) low = s4
with_seat events company a b c d e f g h s0 s1 s2 s3 s4 s5 (suc (suc (suc (suc (suc zero))))) low = s5
with_seat events company a b c d e f g h s0 s1 s2 s3 s4 s5 (suc (suc (suc (suc (suc (suc number)))))) low =
    absurd (omega (arith, low))

-- the row with the bank's shares of a company and those of six seats
pub row_is :
    (events : List Event) (company : Company) (a b c d e f g h : ℤ) → a ≡ shares_of events company InitialOffering
    → b ≡ shares_of events company BankPool →
    c ≡ shares_with events company 0 → d ≡ shares_with events company 1 → e ≡ shares_with events company 2
    → f ≡ shares_with events company 3 →
    g ≡ shares_with events company 4 → h ≡ shares_with events company 5
    → IsRowOf events company (row_of_eight a b c d e f g h)
row_is events company a b c d e f g h ipo pool s0 s1 s2 s3 s4 s5 InitialOffering has = ipo
row_is events company a b c d e f g h ipo pool s0 s1 s2 s3 s4 s5 BankPool has = pool
row_is events company a b c d e f g h ipo pool s0 s1 s2 s3 s4 s5 (OfSeat seat) has =
    with_seat events company a b c d e f g h s0 s1 s2 s3 s4 s5 seat.0 (omega (arith, has))

-- the rows of all companies
pub rows_are :
    (events : List Event) (a b c d e f g h : List ℤ) → IsRowOf events Pennsylvania a → IsRowOf events NewYorkCentral b
    → IsRowOf events CanadianPacific c →
    IsRowOf events BaltimoreOhio d → IsRowOf events ChesapeakeOhio e → IsRowOf events Erie f
    → IsRowOf events NewHaven g → IsRowOf events BostonMaine h →
    AreSharesOf events (a ∷ b ∷ c ∷ d ∷ e ∷ f ∷ g ∷ h ∷ [])
rows_are events a b c d e f g h of_a of_b of_c of_d of_e of_f of_g of_h Pennsylvania = of_a
rows_are events a b c d e f g h of_a of_b of_c of_d of_e of_f of_g of_h NewYorkCentral = of_b
rows_are events a b c d e f g h of_a of_b of_c of_d of_e of_f of_g of_h CanadianPacific = of_c
rows_are events a b c d e f g h of_a of_b of_c of_d of_e of_f of_g of_h BaltimoreOhio = of_d
rows_are events a b c d e f g h of_a of_b of_c of_d of_e of_f of_g of_h ChesapeakeOhio = of_e
rows_are events a b c d e f g h of_a of_b of_c of_d of_e of_f of_g of_h Erie = of_f
rows_are events a b c d e f g h of_a of_b of_c of_d of_e of_f of_g of_h NewHaven = of_g
rows_are events a b c d e f g h of_a of_b of_c of_d of_e of_f of_g of_h BostonMaine = of_h
