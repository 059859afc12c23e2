-- Sums of certificates.
use Rattle.std.proofs.Common.{◌≡◌, ℕ, suc, ◌+◌, ◌*◌, ◌^◌, ◌<◌, ℤ, pos, ◌+ℤ◌, ◌-ℤ◌, ◌≤ℤ◌, drop, get_or, ap, arith}
use Rattle.std.proofs.Math.Seq.{drop-cons}
use Rattle.std.proofs.lemmas.Int.{ints}
use lib.IntN.{neg_ℤ}
use Rattle.certs.specs.Counted.{certificates_in}
use Rattle.certs.specs.ShareRow.{IsFew, IsSmall}
use Rattle.tables.specs.Roster.{companies}
use Rattle.tables.specs.declared.roster.Company.{Company}
use Rattle.tables.specs.declared.roster.Company.TheVariants.{Pennsylvania}
use mir.Syntax.{w128}
use mir.Val.{SFits, of_z, to_z}

-- a value once it is kept
abbrev kept : ℤ → ℤ
kept z = to_z w128 (of_z w128 z)

-- shares of a bounded row are few certificates
pub few_shares : (value shares : ℤ) → value ≡ shares → IsSmall shares → IsFew (kept value)
few_shares value shares is small =
    let under = small.not_under in
    let over = small.not_over in
    record { not_under = omega (arith, ints, is, under, over); not_over = omega (arith, ints, is, under, over) }

-- one less are few too
pub few_less : (value shares : ℤ) → value ≡ shares → IsSmall shares → IsFew (kept (kept value -ℤ pos 1))
few_less value shares is small =
    let under = small.not_under in
    let over = small.not_over in
    record { not_under = omega (arith, ints, is, under, over); not_over = omega (arith, ints, is, under, over) }

-- small shares are small once they are kept
pub small_kept : (value shares : ℤ) → value ≡ shares → IsSmall shares → IsSmall (kept value)
small_kept value shares is small =
    let under = small.not_under in
    let over = small.not_over in
    record { not_under = omega (arith, ints, is, under, over); not_over = omega (arith, ints, is, under, over) }

-- a count so far that is not large
pub record IsLow (count : ℤ) (companies_so_far : ℕ) : Type 0 where
  pub not_under : neg_ℤ (pos (companies_so_far * 2 ^ 105)) ≤ℤ count
  pub not_over : count ≤ℤ pos (6 + companies_so_far * 2 ^ 105)

-- one more company fits
pub low_fits : (count more : ℤ) (i : ℕ) → i < 8 → IsLow count i → IsFew more → SFits w128 (count +ℤ kept more)
low_fits count more i less low few =
    let a = low.not_under in
    let b = low.not_over in
    let d = few.not_under in
    let e = few.not_over in
    record { sfits = grind (arith, ints, a, b, d, e) }

-- the value that is kept
sum_is : (count more : ℤ) (i : ℕ) → i < 8 → IsLow count i → IsFew more → kept (count +ℤ kept more) ≡ count +ℤ more
sum_is count more i less low few =
    let a = low.not_under in
    let b = low.not_over in
    let d = few.not_under in
    let e = few.not_over in
    omega (arith, ints, a, b, d, e)

-- one more company is low
pub low_more : (count more : ℤ) (i : ℕ) → i < 8 → IsLow count i → IsFew more → IsLow (kept (count +ℤ kept more)) (i + 1)
low_more count more i less low few =
    let sum = sum_is count more i less low few in
    let a = low.not_under in
    let b = low.not_over in
    let d = few.not_under in
    let e = few.not_over in
    record { not_under = omega (arith, ints, sum, a, b, d, e); not_over = omega (arith, ints, sum, a, b, d, e) }

-- one more company is counted
pub counted_more : (f : Company → ℤ) (count more whole : ℤ) (i : ℕ) → i < 8 → IsLow count i → IsFew more
    → more ≡ f (get_or companies i Pennsylvania) → count +ℤ certificates_in f (drop i companies) ≡ whole
    → kept (count +ℤ kept more) +ℤ certificates_in f (drop (i + 1) companies) ≡ whole
counted_more f count more whole i less low few is before =
    let sum = sum_is count more i less low few in
    let next : certificates_in f (drop i companies)
    ≡ f (get_or companies i Pennsylvania) +ℤ certificates_in f (drop (suc i) companies) =
    ap (certificates_in f) (drop-cons companies i Pennsylvania less)
    in
    let one : certificates_in f (drop (suc i) companies) ≡ certificates_in f (drop (i + 1) companies) =
    let same : suc i ≡ i + 1 = omega arith in ap (λ (n : ℕ). certificates_in f (drop n companies)) same
    in
    omega (arith, ints, sum, next, one, is, before)

-- all companies are counted
pub counted_all : (f : Company → ℤ) (count whole : ℤ) (i : ℕ) → i ≡ 8
    → count +ℤ certificates_in f (drop i companies) ≡ whole → count ≡ whole
counted_all f count whole i eight before =
    let none : certificates_in f (drop i companies) ≡ pos 0 =
    ap (λ (n : ℕ). certificates_in f (drop n companies)) eight in
    omega (arith, ints, none, before)
