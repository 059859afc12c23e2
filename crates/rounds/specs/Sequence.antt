-- What comes after a round. Opening rounds come until all privates are sold, then sets of a stock
-- round and some operating rounds, until a set has ended with the bank broken.
use Rattle.std.specs.Prelude.{◌≡◌, ℕ, ◌+◌, ◌-◌, ◌≤◌, Bool, true, false, nat_lt, if◌then◌else◌}
use Rattle.rounds.specs.declared.following.Next.{Next}
use Rattle.rounds.specs.declared.following.Next.TheVariants as next
use Rattle.sheets.specs.Laws.{number_of}
use Rattle.tables.specs.Round.{is_before, number_most, operating_most, rank_of, stock_rank}
use Rattle.tables.specs.declared.round.Round.{Round}
use Rattle.tables.specs.declared.round.Round.TheVariants.{Opening, Stock, Operating}

-- what comes after a round; in_set is the number of operating rounds of the set
abbrev pub following : Round → ℕ → Bool → Bool → Next
following (Opening number) in_set all_sold broken = next.Round (if all_sold then Stock 1 else Opening (number + 1))
following (Stock set) in_set all_sold broken = next.Round (Operating set 1)
following (Operating set number) in_set all_sold broken = if nat_lt number in_set
    then next.Round (Operating set (number + 1)) else (if broken then next.Ended else next.Round (Stock (set + 1)))

-- an operating round's place in its set; 0 for other rounds
abbrev pub turn_in_set : Round → ℕ
turn_in_set (Operating set number) = number
turn_in_set other = 0

-- a round that follows a round comes later among all rounds
abbrev pub SequenceGoesForward : Type 0
SequenceGoesForward =
    (round later : Round) (in_set : ℕ) (all_sold broken : Bool)
    → number_of round ≤ number_most → turn_in_set round ≤ operating_most
    → following round in_set all_sold broken ≡ next.Round later → is_before round later ≡ true

-- while the bank is not broken, a round comes next
abbrev pub BankAloneEndsIt : Type 0
BankAloneEndsIt =
    (round : Round) (in_set : ℕ) (all_sold : Bool)
    → (later : Round) × (following round in_set all_sold false ≡ next.Round later)

-- how many places are left after a round in the order of all rounds that a sheet may name
abbrev pub places_left : Round → ℕ
places_left round = stock_rank (number_most + 1) - rank_of round

-- how many are left, given what comes next
abbrev pub places_to_come : Next → ℕ
places_to_come (next.Round round) = places_left round
places_to_come next.Ended = 0
