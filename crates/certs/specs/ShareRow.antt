-- A row of shares of one company: first the initial offering's, then the bank pool's, then those of
-- each of six seats.
use Rattle.std.specs.Prelude.{◌≡◌, ℕ, ◌+◌, ◌^◌, ◌<◌, ◌≤◌, ◌==◌, if◌then◌else◌, List, [], ◌∷◌, ℤ, pos, ◌+ℤ◌, ◌-ℤ◌, ◌≤ℤ◌}
use Rattle.std.specs.Prelude.{length, slice_index_or}
use lib.IntN.{neg_ℤ}
use Rattle.events.specs.declared.event.Shareholder.{Shareholder}
use Rattle.events.specs.declared.event.Shareholder.TheVariants.{InitialOffering, BankPool, Seat as OfSeat}

-- the index of a place in a row
abbrev pub index_of : Shareholder → ℕ
index_of InitialOffering = 0
index_of BankPool = 1
index_of (OfSeat seat) = 2 + seat.0

-- the place is in a row: a seat is one of six
abbrev pub HasPlace : Shareholder → Type 0
HasPlace place = index_of place < 8

-- the sum of a row
abbrev pub total : List ℤ → ℤ
total [] = pos 0
total (shares ∷ others) = shares +ℤ total others

-- a row of eight whose sum, and what is owed in it, are no more than a list in memory can bring; a
-- transfer keeps it so
pub record IsBounded (row : List ℤ) : Type 0 where
  pub not_under : (i : ℕ) → neg_ℤ (pos (2 ^ 100)) ≤ℤ slice_index_or row i (pos 0)
  pub not_over : total row ≤ℤ pos (2 ^ 103)
  pub short : length row ≤ 8

-- each row is bounded
abbrev pub AreBounded : List (List ℤ) → Type 0
AreBounded rows = (k : ℕ) → IsBounded (slice_index_or rows k [])

-- shares at one place of a row
abbrev pub only_at : ℕ → ℕ → ℤ → ℤ
only_at index k shares = if index == k then shares else pos 0

-- a row is another in which shares went from one place to another; a place may be none of the row
abbrev pub IsMoved : List ℤ → List ℤ → ℕ → ℕ → ℕ → Type 0
IsMoved old new from to shares =
    (k : ℕ) → k < 8 → slice_index_or new k (pos 0) ≡ (slice_index_or old k (pos 0) +ℤ only_at to k (pos shares)) -ℤ only_at
    from k (pos shares)

-- a row is another in which shares went from one place to none of the row
abbrev pub IsTaken : List ℤ → List ℤ → ℕ → ℕ → Type 0
IsTaken old new from shares =
    (k : ℕ) → slice_index_or new k (pos 0) ≡ slice_index_or old k (pos 0) -ℤ only_at from k (pos shares)

-- shares that are neither many nor far below 0
pub record IsSmall (shares : ℤ) : Type 0 where
  pub not_under : neg_ℤ (pos (2 ^ 100)) ≤ℤ shares
  pub not_over : shares ≤ℤ pos (2 ^ 104)

-- certificates that are neither many nor far below 0
pub record IsFew (certificates : ℤ) : Type 0 where
  pub not_under : neg_ℤ (pos (2 ^ 105)) ≤ℤ certificates
  pub not_over : certificates ≤ℤ pos (2 ^ 105)
