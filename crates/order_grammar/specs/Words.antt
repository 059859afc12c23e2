-- The words of a line are the longest runs of bytes other than space before its first `#`, letters
-- raised.
use Rattle.std.specs.Prelude.{ℕ, ◌+◌, ◌==◌, Bool, true, false, ◌&&◌, nat_le, ◌<◌, ◌≤◌, ◌≡◌, length, slice_range}
use Rattle.std.specs.Prelude.{if◌then◌else◌, List, [], ◌∷◌, ◌++◌, Option, find, map, not}
use Rattle.std.specs.Char.{to_ascii_uppercase}

-- the part of a text before the first byte that is this one; all of it if there is none
abbrev pub before : ℕ → List ℕ → List ℕ
before stop [] = []
before stop (byte ∷ bytes) = if byte == stop then [] else byte ∷ before stop bytes

-- the part of a line before its first `#`
abbrev pub before_comment : List ℕ → List ℕ
before_comment line = before 35 line

-- a word before others, if it has any bytes
abbrev pub with_word : List ℕ → List (List ℕ) → List (List ℕ)
with_word [] words = words
with_word (byte ∷ bytes) words = (byte ∷ bytes) ∷ words

-- the words of a text, of whose first word these bytes have come
abbrev pub words_from : List ℕ → List ℕ → List (List ℕ)
words_from word [] = with_word word []
words_from word (byte ∷ bytes) =
    if byte == 32 then with_word word (words_from [] bytes) else words_from (word ++ byte ∷ []) bytes

-- a word with its letters raised
abbrev pub raised : List ℕ → List ℕ
raised word = map to_ascii_uppercase word

-- the words of a line
abbrev pub words_of : List ℕ → List (List ℕ)
words_of line = map raised (words_from [] (before_comment line))

-- the first of some words; nothing if there is none
abbrev pub first_of_words : List (List ℕ) → List ℕ
first_of_words [] = []
first_of_words (word ∷ words) = word

-- the first byte of a text that is no space
abbrev pub first_byte : List ℕ → Option ℕ
first_byte text = find (λ byte. not (byte == 32)) text

-- printable ASCII, a space included
abbrev pub is_printable : ℕ → Bool
is_printable byte = nat_le 32 byte && nat_le byte 126

-- there is a word
abbrev pub has_words : List (List ℕ) → Bool
has_words [] = false
has_words (word ∷ words) = true

-- two words are the same
abbrev pub same_word : List ℕ → List ℕ → Bool
same_word [] [] = true
same_word (a ∷ as_) (b ∷ bs) = a == b && same_word as_ bs
same_word word other = false

-- a word as it is written, and where it is in its text: from start, up to and without end
pub record Placed : Type 0 where
  pub text : List ℕ
  pub start : ℕ
  pub end : ℕ

-- each word is what the text has at its place, and begins no earlier than the one before it ends;
-- the first no earlier than from
abbrev pub LieFrom : ℕ → List ℕ → List Placed → Type 0
LieFrom from text [] = Unit {0}
LieFrom from text (word ∷ words) =
    (from ≤ word.start) × (word.start < word.end) × (word.end ≤ length text)
    × (word.text ≡ slice_range text word.start word.end) × LieFrom word.end text words

-- the words, letters raised
abbrev pub texts_of : List Placed → List (List ℕ)
texts_of words = map (λ word. raised word.text) words

-- these are the words of a line, each at its place before the comment
pub record AreWordsOf (line : List ℕ) (words : List Placed) : Type 0 where
  pub texts : texts_of words ≡ words_of line
  pub places : LieFrom 0 (before_comment line) words

-- a word that begins at a place, before others, if it has any bytes
abbrev pub with_placed : ℕ → List ℕ → List Placed → List Placed
with_placed start [] words = words
with_placed start (byte ∷ bytes) words =
    record { text = byte ∷ bytes; start = start; end = start + length (byte ∷ bytes) } ∷ words

-- the words of the rest of a text at their places; of the first word, which begins at start, these
-- bytes have come
abbrev pub placed_from : ℕ → List ℕ → List ℕ → List Placed
placed_from start word [] = with_placed start word []
placed_from start word (byte ∷ bytes) =
    if byte == 32
    then with_placed start word (placed_from (start + length word + 1) [] bytes)
    else placed_from start (word ++ byte ∷ []) bytes
