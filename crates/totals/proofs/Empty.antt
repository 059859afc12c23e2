-- The totals of no events.
use Rattle.std.proofs.Common.{◌≡◌, ℕ, zero, suc, ◌<◌, false, List, [], Option, None, pos, slice_index_or, refl, ap, ◌∙◌}
use Rattle.std.proofs.Common.{arith}
use Rattle.std.specs.Prelude.{replicate}
use Rattle.std.proofs.lemmas.Int.{ints}
use Rattle.events.specs.declared.event.Event.{Event}
use Rattle.totals.proofs.Tied.{none_standing}
use Rattle.totals.specs.Totals.{IsBalance, IsCounted, at_company, balance_at, bid_in, count_at, sale_in}
use Rattle.tables.specs.Roster.{index_of_company}
use Rattle.tables.specs.declared.roster.Company.{Company}
use Rattle.tables.specs.declared.roster.Company.TheVariants as company
use Rattle.tables.specs.declared.roster.Private.{Private}
use Rattle.tables.specs.declared.seat.Seat.{Seat}
use Rattle.tables.specs.declared.roster.Private.TheVariants.{SchuylkillValley, ChamplainStLawrence, DelawareHudson}
use Rattle.tables.specs.declared.roster.Private.TheVariants.{MohawkHudson, CamdenAmboy, BaltimoreOhio}

-- a table of eight in which nothing is said
abbrev nothing : (A : Type 0) → List (Option A)
nothing A = replicate 8 None

-- says nothing of a company
pub nothing_said : {A : Type 0} (of : Company) → at_company (nothing A) of ≡ None
nothing_said company.Pennsylvania = refl
nothing_said company.NewYorkCentral = refl
nothing_said company.CanadianPacific = refl
nothing_said company.BaltimoreOhio = refl
nothing_said company.ChesapeakeOhio = refl
nothing_said company.Erie = refl
nothing_said company.NewHaven = refl
nothing_said company.BostonMaine = refl

-- a table in which no bid stands
pub no_bid : (private : Private) (number : ℕ) → number < 6
    → bid_in (replicate 6 (replicate 6 None)) private number ≡ None
no_bid SchuylkillValley number low = none_standing SchuylkillValley number low
no_bid ChamplainStLawrence number low = none_standing ChamplainStLawrence number low
no_bid DelawareHudson number low = none_standing DelawareHudson number low
no_bid MohawkHudson number low = none_standing MohawkHudson number low
no_bid CamdenAmboy number low = none_standing CamdenAmboy number low
no_bid BaltimoreOhio number low = none_standing BaltimoreOhio number low

-- a table of the same throughout
pub same_throughout : {A : Type 0} (a : A) (n entry : ℕ) → slice_index_or (replicate n a) entry a ≡ a
same_throughout a zero entry = refl
same_throughout a (suc n) zero = refl
same_throughout a (suc n) (suc entry) = same_throughout a n entry

-- has the balance of no events at each entry
pub no_balance : (brings takes : Event → ℕ) (n entry : ℕ) → IsBalance brings takes []
    (balance_at (replicate n (pos 0)) entry)
no_balance brings takes n entry =
    let none = same_throughout (pos 0) n entry in
    record { is = none; not_under = omega (arith, ints, none); not_over = omega (arith, ints, none) }

-- no event is counted
pub none_counted : (kept : ℕ) → kept ≡ 0 → IsCounted 0 [] kept
none_counted kept none = record { is = none; few = omega (arith, none) }

-- a table has the count of none at each entry
pub no_count : (n entry : ℕ) → IsCounted 0 [] (count_at (replicate n 0) entry)
no_count n entry = none_counted _ (same_throughout 0 n entry)

-- each row of a table of eight
row_throughout : {A : Type 0} (row : List A) (company : Company)
    → slice_index_or (replicate 8 row) (index_of_company company) [] ≡ row
row_throughout row company.Pennsylvania = refl
row_throughout row company.NewYorkCentral = refl
row_throughout row company.CanadianPacific = refl
row_throughout row company.BaltimoreOhio = refl
row_throughout row company.ChesapeakeOhio = refl
row_throughout row company.Erie = refl
row_throughout row company.NewHaven = refl
row_throughout row company.BostonMaine = refl

-- a table that names no sale
pub no_sale : (company : Company) (seat : Seat) → sale_in (replicate 8 (replicate 6 false)) company seat ≡ false
no_sale company seat =
    ap (λ row. slice_index_or row seat.0 false) (row_throughout (replicate 6 false) company)
    ∙ same_throughout false 6 seat.0
