-- Rows of shares.
use Rattle.std.proofs.Common.{◌≡◌, ℕ, zero, suc, ◌*◌, ◌^◌, ◌<◌, ◌≤◌, List, [], ◌∷◌, ℤ, pos, ◌+ℤ◌, ◌≤ℤ◌, ◌-ℤ◌, ◌==◌}
use Rattle.std.proofs.Common.{if◌then◌else◌, Bool, true, false, length, get_or, set, sym, subst, inl, inr, arith}
use lib.IntN.{neg_ℤ}
use Rattle.std.proofs.lemmas.Bool.{cases_eq}
use Rattle.std.proofs.lemmas.Bool.Decides.{nat_tests}
use Rattle.std.proofs.lemmas.Int.{ints}
use Rattle.std.proofs.lemmas.List.{get_or-set_other, get_or-set_same, length-set}
use Rattle.tables.proofs.Filled.{entry_changed}
use Rattle.certs.specs.ShareRow.{IsBounded, IsSmall, total}
use Rattle.totals.specs.LookBack.{IsModerate}

-- the sum of moderate entries
total_le : (row : List ℤ) → ((i : ℕ) → get_or row i (pos 0) ≤ℤ pos (2 ^ 100)) → total row ≤ℤ pos (length row * 2 ^ 100)
total_le [] each = omega (arith, ints)
total_le (shares ∷ others) each =
    let first = each 0 in
    let rest = total_le others (λ i. each (suc i)) in
    omega (arith, ints, first, rest)

-- at most eight moderate entries are bounded
pub bounded_of : (row : List ℤ) → length row ≤ 8 → ((i : ℕ) → IsModerate (get_or row i (pos 0))) → IsBounded row
bounded_of row short each =
    let all = total_le row (λ i. (each i).not_over) in
    record {
      not_under = λ i. (each i).not_under;
      not_over = omega (arith, ints, all, short);
      short = short;
    }

-- the sum of entries that are not under a bound
total_ge : (row : List ℤ) → ((i : ℕ) → neg_ℤ (pos (2 ^ 100)) ≤ℤ get_or row i (pos 0))
    → neg_ℤ (pos (length row * 2 ^ 100)) ≤ℤ total row
total_ge [] each = omega (arith, ints)
total_ge (shares ∷ others) each =
    let first = each 0 in
    let rest = total_ge others (λ i. each (suc i)) in
    omega (arith, ints, first, rest)

-- an entry beside the sum
entry_le : (row : List ℤ) (i : ℕ) → ((i : ℕ) → neg_ℤ (pos (2 ^ 100)) ≤ℤ get_or row i (pos 0))
    → get_or row i (pos 0) ≤ℤ (total row +ℤ pos (length row * 2 ^ 100))
entry_le [] i each = omega (arith, ints)
entry_le (shares ∷ others) zero each =
    let first = each 0 in
    let rest = total_ge others (λ i. each (suc i)) in
    omega (arith, ints, first, rest)
entry_le (shares ∷ others) (suc i) each =
    let first = each 0 in
    let rest = entry_le others i (λ i. each (suc i)) in
    omega (arith, ints, first, rest)

-- an entry of a bounded row is not large
pub entry_small : (row : List ℤ) (i : ℕ) → IsBounded row → get_or row i (pos 0) ≤ℤ pos (2 ^ 104)
entry_small row i bounded =
    let small = entry_le row i bounded.not_under in
    let sum = bounded.not_over in
    let short = bounded.short in
    omega (arith, ints, small, sum, short)

-- the sum with one entry changed
total_set : (row : List ℤ) (i : ℕ) (entry : ℤ) → i < length row
    → total (set row i entry) ≡ (total row +ℤ entry) -ℤ get_or row i (pos 0)
total_set [] i entry within = absurd (omega arith)
total_set (shares ∷ others) zero entry within = omega (arith, ints)
total_set (shares ∷ others) (suc i) entry within =
    let rest = total_set others i entry (omega arith) in
    omega (arith, ints, rest)

-- a part of a sum at a place
abbrev part : ℕ → ℕ → ℤ → ℤ
part i k sum = if i == k then sum else pos 0

-- two changes of an entry
parts :
    (from to : Bool) (before between after shares : ℤ) → between ≡ before +ℤ (if from then pos 0 -ℤ shares else pos 0) →
    after ≡ between +ℤ (if to then shares else pos 0)
    → after ≡ (before +ℤ (if to then shares else pos 0)) -ℤ (if from then shares else pos 0)
parts true true before between after shares first second = omega (arith, ints)
parts true false before between after shares first second = omega (arith, ints)
parts false true before between after shares first second = omega (arith, ints)
parts false false before between after shares first second = omega (arith, ints)

-- where the giver has the shares, no entry falls under the bound
not_under_moved : (row : List ℤ) (from k : ℕ) (to : Bool) (shares after : ℤ) → pos 0 ≤ℤ shares
    → shares ≤ℤ get_or row from (pos 0) → neg_ℤ (pos (2 ^ 100)) ≤ℤ get_or row k (pos 0)
    → after ≡ (get_or row k (pos 0) +ℤ (if to then shares else pos 0)) -ℤ part from k shares
    → neg_ℤ (pos (2 ^ 100)) ≤ℤ after
not_under_moved row from k to shares after some held under is =
    elim (cases_eq from k) [
      | inl same ↦ let here : shares ≤ℤ get_or row k (pos 0) =
          subst (λ (i : ℕ). shares ≤ℤ get_or row i (pos 0)) same held in grind (arith, ints, nat_tests)
      | inr apart ↦ grind (arith, ints, nat_tests)
    ]

-- an entry after shares have gone from one place to another
pub entry_moved : (row : List ℤ) (from to k : ℕ) (shares less more : ℤ) → from < length row → to < length row
    → less ≡ get_or row from (pos 0) -ℤ shares → more ≡ get_or (set row from less) to (pos 0) +ℤ shares
    → get_or (set (set row from less) to more) k (pos 0)
    ≡ (get_or row k (pos 0) +ℤ part to k shares) -ℤ part from k shares
entry_moved row from to k shares less more from_in to_in is_less is_more =
    let first = entry_changed row from k (pos 0 -ℤ shares) less from_in (omega (arith, ints, is_less)) in
    let length_same = length-set row from less in
    let second = entry_changed (set row from less) to k shares more (omega (arith, to_in, length_same)) is_more in
    parts (from == k) (to == k) _ _ _ shares first second

-- shares that go from a bounded row's place to another leave it bounded
pub bounded_moved : (row : List ℤ) (from to : ℕ) (shares less more : ℤ) → from < length row → to < length row
    → pos 0 ≤ℤ shares → shares ≤ℤ get_or row from (pos 0) → less ≡ get_or row from (pos 0) -ℤ shares
    → more ≡ get_or (set row from less) to (pos 0) +ℤ shares → IsBounded row
    → IsBounded (set (set row from less) to more)
bounded_moved row from to shares less more from_in to_in some held is_less is_more bounded =
    let length_same = length-set row from less in
    let first = total_set row from less from_in in
    let second = total_set (set row from less) to more (omega (arith, to_in, length_same)) in
    let sum = bounded.not_over in
    record {
      not_under = λ k. not_under_moved row from k (to == k) shares _ some held (bounded.not_under k)
          (entry_moved row from to k shares less more from_in to_in is_less is_more);
      not_over = omega (arith, ints, first, second, is_less, is_more, sum);
      short = omega (arith, length_same, length-set (set row from less) to more, bounded.short);
    }

-- one change of an entry
part_less : (there : Bool) (before after shares : ℤ) → after ≡ before +ℤ (if there then pos 0 -ℤ shares else pos 0)
    → after ≡ before -ℤ (if there then shares else pos 0)
part_less true before after shares is = omega (arith, ints)
part_less false before after shares is = omega (arith, ints)

-- an entry after shares have gone to none of the row
pub entry_taken : (row : List ℤ) (from k : ℕ) (shares less : ℤ) → from < length row
    → less ≡ get_or row from (pos 0) -ℤ shares
    → get_or (set row from less) k (pos 0) ≡ get_or row k (pos 0) -ℤ part from k shares
entry_taken row from k shares less from_in is_less =
    part_less (from == k) _ _ shares
    (entry_changed row from k (pos 0 -ℤ shares) less from_in (omega (arith, ints, is_less)))

-- they leave it bounded
pub bounded_less : (row : List ℤ) (from : ℕ) (shares less : ℤ) → from < length row → pos 0 ≤ℤ shares
    → shares ≤ℤ get_or row from (pos 0) → less ≡ get_or row from (pos 0) -ℤ shares → IsBounded row
    → IsBounded (set row from less)
bounded_less row from shares less from_in some held is_less bounded =
    let length_same = length-set row from less in
    let first = total_set row from less from_in in
    let sum = bounded.not_over in
    record {
      not_under = λ k.
          let there = entry_taken row from k shares less from_in is_less in
          not_under_moved row from k false shares _ some held (bounded.not_under k) (omega (arith, ints, there));
      not_over = omega (arith, ints, first, is_less, some, sum);
      short = omega (arith, length_same, bounded.short);
    }

-- less a part of a sum
less_part : (part_there : Bool) (before after shares : ℤ) → pos 0 ≤ℤ shares
    → after ≡ (before +ℤ pos 0) -ℤ (if part_there then shares else pos 0) → after ≤ℤ before
less_part true before after shares some is = omega (arith, ints)
less_part false before after shares some is = omega (arith, ints)

-- an entry between the two steps of a move
pub small_between : (row : List ℤ) (from k : ℕ) (shares less : ℤ) → from < length row → pos 0 ≤ℤ shares
    → shares ≤ℤ get_or row from (pos 0) → less ≡ get_or row from (pos 0) -ℤ shares → IsBounded row
    → IsSmall (get_or (set row from less) k (pos 0))
small_between row from k shares less from_in some held is_less bounded =
    let first = entry_changed row from k (pos 0 -ℤ shares) less from_in (omega (arith, ints, is_less)) in
    let there = parts (from == k) false _ _ (get_or (set row from less) k (pos 0)) shares first (omega (arith, ints)) in
    let small = entry_small row k bounded in
    let fewer = less_part (from == k) (get_or row k (pos 0)) (get_or (set row from less) k (pos 0)) shares some there in
    record {
      not_under = not_under_moved row from k false shares _ some held (bounded.not_under k) there;
      not_over = omega (arith, ints, small, fewer);
    }

-- with one row changed all are bounded
pub bounded_set : (rows : List (List ℤ)) (at : ℕ) (row : List ℤ) → at < length rows → IsBounded row
    → ((k : ℕ) → IsBounded (get_or rows k [])) → (k : ℕ) → IsBounded (get_or (set rows at row) k [])
bounded_set rows at row within bounded each k =
    elim (cases_eq k at) [
      | inl same ↦ subst (λ (i : ℕ). IsBounded (get_or (set rows at row) i [])) (sym same)
          (subst (λ (r : List ℤ). IsBounded r) (sym (get_or-set_same rows at row [] within)) bounded)
      | inr apart ↦ subst (λ (r : List ℤ). IsBounded r) (sym (get_or-set_other rows at k row [] apart)) (each k)
    ]

-- an entry of a bounded row is small
pub small_in : (row : List ℤ) (i : ℕ) → IsBounded row → IsSmall (get_or row i (pos 0))
small_in row i bounded = record { not_under = bounded.not_under i; not_over = entry_small row i bounded }
