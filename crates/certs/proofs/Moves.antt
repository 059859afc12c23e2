-- Shares that go from one place of a row to another, with the values as they are kept.
use Rattle.std.proofs.Common.{◌≡◌, ℕ, ◌<◌, List, ℤ, pos, ◌+ℤ◌, ◌-ℤ◌, ◌≤ℤ◌, ◌==◌, if◌then◌else◌, length, get_or, set}
use Rattle.std.proofs.Common.{◌≤◌, Bool, true, false, sym, subst, ap, ◌∙◌, arith}
use Rattle.std.proofs.lemmas.Bool.Decides.{nat_tests}
use Rattle.std.proofs.lemmas.Int.{ints}
use Rattle.std.proofs.lemmas.List.{get_or_past}
use Rattle.certs.proofs.RowLemmas.{bounded_less, bounded_moved, entry_moved, entry_small, entry_taken, small_between}
use Rattle.certs.specs.ShareRow.{IsBounded}
use mir.Syntax.{w128}
use mir.Val.{SFits, of_z, to_z}

-- a value once it is kept
abbrev kept : ℤ → ℤ
kept z = to_z w128 (of_z w128 z)

-- what the giver has left
abbrev pub left_with : List ℤ → ℕ → ℤ → ℤ
left_with row from shares = kept (kept (get_or row from (pos 0)) -ℤ kept shares)

-- what the taker has then
abbrev pub come_to : List ℤ → ℕ → ℕ → ℤ → ℤ
come_to row from to shares = kept (kept (get_or (set row from (left_with row from shares)) to (pos 0)) +ℤ kept shares)

-- a move that is allowed
pub record CanMove (row : List ℤ) (from to shares : ℕ) (sum : ℤ) : Type 0 where
  pub eight : length row ≡ 8
  pub from_in : from < 8
  pub to_in : to < 8
  pub few : shares < 256
  pub sum_is : sum ≡ pos shares
  pub held : pos shares ≤ℤ get_or row from (pos 0)
  pub bounded : IsBounded row

-- such a move, fact by fact
pub can_move : (row : List ℤ) (from to shares : ℕ) (sum : ℤ) → length row ≡ 8 → from < 8 → to < 8 → shares < 256
    → sum ≡ pos shares → pos shares ≤ℤ get_or row from (pos 0) → IsBounded row → CanMove row from to shares sum
can_move row from to shares sum eight from_in to_in few sum_is held bounded =
    record {
      eight = eight;
      from_in = from_in;
      to_in = to_in;
      few = few;
      sum_is = sum_is;
      held = held;
      bounded = bounded;
    }

-- what the giver has left is the difference
less_is : (row : List ℤ) (from to shares : ℕ) (sum : ℤ) → CanMove row from to shares sum
    → left_with row from sum ≡ get_or row from (pos 0) -ℤ pos shares
less_is row from to shares sum can =
    let small = entry_small row from can.bounded in
    let under = can.bounded.not_under from in
    let held = can.held in
    let few = can.few in
    let is = can.sum_is in
    omega (arith, ints, small, under, held, few, is)

-- the sum of what the taker had and what came fits
pub more_fits : (row : List ℤ) (from to shares : ℕ) (sum : ℤ) → CanMove row from to shares sum
    → SFits w128 (kept (get_or (set row from (left_with row from sum)) to (pos 0)) +ℤ kept sum)
more_fits row from to shares sum can =
    let small = small_between row from to (pos shares) (left_with row from sum)
    (omega (arith, can.from_in, can.eight)) (omega (arith, ints)) can.held (less_is row from to shares sum can)
    can.bounded in
    let under = small.not_under in
    let over = small.not_over in
    let few = can.few in
    let is = can.sum_is in
    record { sfits = grind (arith, ints, under, over, few, is) }

-- what the taker has then is the sum
more_is : (row : List ℤ) (from to shares : ℕ) (sum : ℤ) → CanMove row from to shares sum
    → come_to row from to sum ≡ get_or (set row from (left_with row from sum)) to (pos 0) +ℤ pos shares
more_is row from to shares sum can =
    let small = small_between row from to (pos shares) (left_with row from sum)
    (omega (arith, can.from_in, can.eight)) (omega (arith, ints)) can.held (less_is row from to shares sum can)
    can.bounded in
    let under = small.not_under in
    let over = small.not_over in
    let few = can.few in
    let is = can.sum_is in
    omega (arith, ints, under, over, few, is)

-- the entries after the move
pub entries_after : (row : List ℤ) (from to shares : ℕ) (sum : ℤ) → CanMove row from to shares sum → (k : ℕ)
    → get_or (set (set row from (left_with row from sum)) to (come_to row from to sum)) k (pos 0)
    ≡ (get_or row k (pos 0) +ℤ (if to == k then pos shares else pos 0)) -ℤ (if from == k then pos shares else pos 0)
entries_after row from to shares sum can k =
    entry_moved row from to k (pos shares) (left_with row from sum) (come_to row from to sum)
    (omega (arith, can.from_in, can.eight)) (omega (arith, can.to_in, can.eight))
    (less_is row from to shares sum can) (more_is row from to shares sum can)

-- the row after the move is bounded
pub bounded_after : (row : List ℤ) (from to shares : ℕ) (sum : ℤ) → CanMove row from to shares sum
    → IsBounded (set (set row from (left_with row from sum)) to (come_to row from to sum))
bounded_after row from to shares sum can =
    bounded_moved row from to (pos shares) (left_with row from sum) (come_to row from to sum)
    (omega (arith, can.from_in, can.eight)) (omega (arith, can.to_in, can.eight)) (omega (arith, ints)) can.held
    (less_is row from to shares sum can) (more_is row from to shares sum can) can.bounded

-- the entries after shares have gone to none of the row
pub entries_taken : (row : List ℤ) (from shares : ℕ) (sum : ℤ) → CanMove row from from shares sum → (k : ℕ)
    → get_or (set row from (left_with row from sum)) k (pos 0)
    ≡ get_or row k (pos 0) -ℤ (if from == k then pos shares else pos 0)
entries_taken row from shares sum can k =
    entry_taken row from k (pos shares) (left_with row from sum) (omega (arith, can.from_in, can.eight))
    (less_is row from from shares sum can)

-- the row then is bounded
pub bounded_taken : (row : List ℤ) (from shares : ℕ) (sum : ℤ) → CanMove row from from shares sum
    → IsBounded (set row from (left_with row from sum))
bounded_taken row from shares sum can =
    bounded_less row from (pos shares) (left_with row from sum) (omega (arith, can.from_in, can.eight))
    (omega (arith, ints)) can.held (less_is row from from shares sum can) can.bounded

-- nothing moves
unmoved : (comes goes : Bool) (before : ℤ)
    → before ≡ (before +ℤ (if comes then pos 0 else pos 0)) -ℤ (if goes then pos 0 else pos 0)
unmoved true true before = omega (arith, ints)
unmoved true false before = omega (arith, ints)
unmoved false true before = omega (arith, ints)
unmoved false false before = omega (arith, ints)

-- one that is not in the row has nothing to give
pub none_moved : (row : List ℤ) (from to shares : ℕ) → length row ≡ 8 → 8 ≤ from
    → pos shares ≤ℤ get_or row from (pos 0) → (k : ℕ) → k < 8
    → get_or row k (pos 0)
    ≡ (get_or row k (pos 0) +ℤ (if to == k then pos shares else pos 0)) -ℤ (if from == k then pos shares else pos 0)
none_moved row from to shares eight past held k low =
    let nothing : get_or row from (pos 0) ≡ pos 0 = get_or_past row from (pos 0) (omega (arith, eight)) in
    let none : shares ≡ 0 = omega (arith, ints) in
    subst (λ (n : ℕ). get_or row k (pos 0)
    ≡ (get_or row k (pos 0) +ℤ (if to == k then pos n else pos 0)) -ℤ (if from == k then pos n else pos 0))
    (sym none) (unmoved (to == k) (from == k) (get_or row k (pos 0)))

-- what goes to none of the row comes to no place of it
pub moved_out : (row new : List ℤ) (from to shares : ℕ) → 8 ≤ to
    → ((k : ℕ) → get_or new k (pos 0) ≡ get_or row k (pos 0) -ℤ (if from == k then pos shares else pos 0))
    → (k : ℕ) → k < 8 → get_or new k (pos 0)
    ≡ (get_or row k (pos 0) +ℤ (if to == k then pos shares else pos 0)) -ℤ (if from == k then pos shares else pos 0)
moved_out row new from to shares past taken k low =
    let apart : (to == k) ≡ false = grind (arith, nat_tests) in
    let part : ℤ = if from == k then pos shares else pos 0 in
    let same : (get_or row k (pos 0) -ℤ part) ≡ ((get_or row k (pos 0) +ℤ pos 0) -ℤ part) = omega (arith, ints) in
    taken k
    ∙ same
    ∙ ap (λ (b : Bool). (get_or row k (pos 0) +ℤ (if b then pos shares else pos 0)) -ℤ part) (sym apart)
