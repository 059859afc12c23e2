-- Rounds: their limits, and their order. PR1, PR2, .. come first; then SR1, OR1.1, OR1.2, OR1.3,
-- SR2, ..
use Rattle.std.specs.Prelude.{◌≡◌, ℕ, ◌+◌, ◌*◌, ◌≤◌, ◌<◌, ◌==◌, Bool, true, false, ◌&&◌, nat_lt}
use Rattle.tables.specs.declared.round.Round.{Round}
use Rattle.tables.specs.declared.round.Round.TheVariants.{Opening, Stock, Operating}

-- the largest number of an order or a round
abbrev pub number_most : ℕ
number_most = 99999

-- the most operating rounds of a set
abbrev pub operating_most : ℕ
operating_most = 3

-- the number can be one of an opening or a stock round
abbrev pub IsRoundNumber : ℕ → Type 0
IsRoundNumber number = (1 ≤ number) × (number ≤ number_most)

-- the round has numbers that an order sheet can name
abbrev pub IsNamed : Round → Type 0
IsNamed (Opening number) = IsRoundNumber number
IsNamed (Stock set) = IsRoundNumber set
IsNamed (Operating set number) = IsRoundNumber set × ((1 ≤ number) × (number ≤ operating_most))

-- two rounds are the same
abbrev pub same_round : Round → Round → Bool
same_round (Opening a) (Opening b) = a == b
same_round (Stock a) (Stock b) = a == b
same_round (Operating a m) (Operating b n) = a == b && m == n
same_round a b = false

-- the place of a stock round among all rounds: after every opening, and each set has places for its
-- stock round and its operating rounds
abbrev pub stock_rank : ℕ → ℕ
stock_rank set = number_most + (operating_most + 1) * set

-- the place of a round among all rounds
abbrev pub rank_of : Round → ℕ
rank_of (Opening number) = number
rank_of (Stock set) = stock_rank set
rank_of (Operating set number) = stock_rank set + number

-- a round comes before another
abbrev pub is_before : Round → Round → Bool
is_before a b = nat_lt (rank_of a) (rank_of b)

-- the order of rounds in words of its own
pub record RoundsAreInOrder : Type 0 where
  pub openings : (a b : ℕ) → a < b → is_before (Opening a) (Opening b) ≡ true
  pub openings_first : (number set : ℕ) → IsRoundNumber number → IsRoundNumber set
      → is_before (Opening number) (Stock set) ≡ true
  pub stock_first : (set : ℕ) → is_before (Stock set) (Operating set 1) ≡ true
  pub operating : (set number : ℕ) → is_before (Operating set number) (Operating set (number + 1)) ≡ true
  pub next_set : (set number : ℕ) → number ≤ operating_most → is_before (Operating set number) (Stock (set + 1)) ≡ true
  pub one_place : (a b : Round) → IsNamed a → IsNamed b → rank_of a ≡ rank_of b → a ≡ b
