-- The words of a line, as they are written and as they are put together.
use Rattle.std.specs.Prelude.{ℕ, ◌==◌, ◌||◌, ◌&&◌, ◌-◌, Bool, true, not, if◌then◌else◌, List, [], ◌∷◌, ◌++◌, length, map}
use Rattle.std.specs.Prelude.{nat_le, nat_lt}
use Rattle.hints.specs.Slip.{is_code}
use Rattle.std.specs.Char.{is_ascii_alphabetic, is_ascii_digit, to_ascii_uppercase}
use Rattle.std.specs.List.{list_any}

-- a byte ends a word: it is a space, or begins a comment
abbrev pub ends_word : ℕ → Bool
ends_word byte = byte == 32 || byte == 35

-- a word has a digit
abbrev pub has_digit : List ℕ → Bool
has_digit word = list_any is_ascii_digit word

-- a byte is part of a sign for "at least": <, > or =
abbrev pub is_sign : ℕ → Bool
is_sign byte = byte == 60 || (byte == 62 || byte == 61)

-- what stands between two words: nothing in front of the first
abbrev pub parted : List ℕ → List ℕ
parted [] = []
parted (byte ∷ line) = 32 ∷ []

-- a line with one more word, in upper case; the same line, if the word is empty
abbrev pub with_word : List ℕ → List ℕ → List ℕ
with_word line [] = line
with_word line (byte ∷ word) = line ++ parted line ++ map to_ascii_uppercase (byte ∷ word)

-- a word has a letter or a sign
abbrev pub has_other_than_digits : List ℕ → Bool
has_other_than_digits word = list_any (λ byte. not (is_ascii_digit byte)) word

-- a number of more digits than any sum of the game has: more than five
abbrev pub is_long_number : List ℕ → Bool
is_long_number word = nat_lt 5 (length word) && not (has_other_than_digits word)

-- none of some words is such a number
abbrev pub is_without_long_number : List (List ℕ) → Bool
is_without_long_number [] = true
is_without_long_number (word ∷ words) = not (is_long_number word) && is_without_long_number words

-- some words have at most this many letters, digits and signs
abbrev pub are_within : ℕ → List (List ℕ) → Bool
are_within most [] = true
are_within most (word ∷ words) = nat_le (length word) most && are_within (most - length word) words

-- what some words were meant to be is looked for only if they have at most 108 letters, digits and
-- signs, as many as twelve words of nine letters, and none is a number of more than five digits
abbrev pub is_mendable : List (List ℕ) → Bool
is_mendable words = are_within 108 words && is_without_long_number words

-- a word has a digit or a sign
abbrev pub has_other_than_letters : List ℕ → Bool
has_other_than_letters word = list_any (λ byte. not (is_ascii_alphabetic byte)) word

-- a word has two letters or more, nothing else, and is in neither of two lists of words
abbrev pub is_unknown : List (List ℕ) → List (List ℕ) → List ℕ → Bool
is_unknown firsts codes word =
    nat_lt 1 (length word) && (not (has_other_than_letters word) && not (is_code word firsts || is_code word codes))

-- at most so many of some words are in neither of two lists of words
abbrev pub has_at_most_unknown : ℕ → List (List ℕ) → List (List ℕ) → List (List ℕ) → Bool
has_at_most_unknown most firsts codes [] = true
has_at_most_unknown most firsts codes (word ∷ words) =
    if is_unknown firsts codes word
    then nat_lt 0 most && has_at_most_unknown (most - 1) firsts codes words
    else has_at_most_unknown most firsts codes words
