-- Marks of borders or spots by their numbers, as bits in words of 64.
use Rattle.std.specs.Prelude.{◌≡◌, ℕ, ◌+◌, ◌*◌, ◌/◌, ◌%◌, ◌^◌, ◌<◌, ◌≤◌, Bool, true, false, ◌==◌, ◌⊎◌, ◌↔◌, Option, None}
use Rattle.std.specs.Prelude.{Some, List, length, get_or, map, [], ◌∷◌}
use Rattle.std.specs.Int.{bit_at}
use Rattle.std.specs.List.{range_with_len}

-- a number is marked
abbrev pub IsMarked : List Bool → ℕ → Type 0
IsMarked marks number = get_or marks number false ≡ true

-- the bit of a number
abbrev pub bit_of : List ℕ → ℕ → ℕ
bit_of words number = bit_at (get_or words (number / 64) 0) (number % 64)

-- a word has the bit of a number, and no other
abbrev pub IsBitOf : ℕ → ℕ → Type 0
IsBitOf number word = word ≡ 2 ^ (number % 64)

-- whether the bit of a number is set
unfoldable pub mark_at : List ℕ → ℕ → Bool
mark_at words number = bit_of words number == 1

-- the marks of the first numbers
unfoldable pub marks_in : ℕ → List ℕ → List Bool
marks_in count words = map (mark_at words) (range_with_len 0 count)

-- no bit is set for a number from one on
pub record HasNoneFrom (count : ℕ) (words : List ℕ) : Type 0 where
  pub none : (number : ℕ) → count ≤ number → bit_of words number ≡ 0

-- a number that is marked; none if no number is
abbrev pub IsOneOf : List Bool → Option ℕ → Type 0
IsOneOf marks (Some number) = IsMarked marks number
IsOneOf marks None = (number : ℕ) → IsMarked marks number → ⊥

-- no number is marked in both
abbrev pub AreApart : List Bool → List Bool → Type 0
AreApart marks others = (number : ℕ) → IsMarked marks number → IsMarked others number → ⊥

-- what is marked in one or the other
pub record AreBoth (marks others both : List Bool) : Type 0 where
  pub whole : length both ≡ length marks
  pub each : (number : ℕ) → IsMarked both number ↔ (IsMarked marks number ⊎ IsMarked others number)

-- what is marked in the first and not in the second
pub record AreOnly (marks others left : List Bool) : Type 0 where
  pub whole : length left ≡ length marks
  pub each : (number : ℕ) → IsMarked left number ↔ (IsMarked marks number × (IsMarked others number → ⊥))

-- what is marked, and all that is not in reach
pub record AreBarred (marks reach barred : List Bool) : Type 0 where
  pub whole : length barred ≡ length marks
  pub kept : (number : ℕ) → IsMarked marks number → IsMarked barred number
  pub only : (number : ℕ) → IsMarked reach number → IsMarked barred number → IsMarked marks number

-- what is marked in the second is marked in the first
abbrev pub Freer : List Bool → List Bool → Type 0
Freer [] [] = Unit {0}
Freer [] (mark ∷ marks) = ⊥
Freer (mark ∷ marks) [] = ⊥
Freer (mark ∷ marks) (other ∷ others) = (other ≡ true → mark ≡ true) × Freer marks others

-- this many words have a bit for each of the first numbers, and no word is left over
abbrev pub FillWords : ℕ → ℕ → Type 0
FillWords count words = (0 < count) × (count ≤ 64 * words) × (64 * words < count + 64)
