-- The lines of a text: the pieces between LFs. A CR before an LF is dropped, a last line without LF
-- counts. A line without words is blank, unless it is too long, and counts nowhere.
use Rattle.std.specs.Prelude.{◌≡◌, ◌≢◌, ℕ, ◌<◌, ◌==◌, Bool, ◌&&◌, not, nat_le, if◌then◌else◌, List, [], ◌∷◌, ◌++◌}
use Rattle.std.specs.Prelude.{length, slice_index, filter}
use Rattle.order_grammar.specs.Limits.{line_most}
use Rattle.order_grammar.specs.Words.{words_of, has_words}

-- a line that ended in LF, without a CR at its end
abbrev pub without_return : List ℕ → List ℕ
without_return [] = []
without_return (byte ∷ []) = if byte == 13 then [] else byte ∷ []
without_return (byte ∷ next ∷ bytes) = byte ∷ without_return (next ∷ bytes)

-- a last line, if it has any bytes
abbrev pub last_line : List ℕ → List (List ℕ)
last_line [] = []
last_line (byte ∷ bytes) = (byte ∷ bytes) ∷ []

-- the lines of a text, of whose first line these bytes have come
abbrev pub lines_from : List ℕ → List ℕ → List (List ℕ)
lines_from line [] = last_line line
lines_from line (byte ∷ bytes) =
    if byte == 10 then without_return line ∷ lines_from [] bytes else lines_from (line ++ byte ∷ []) bytes

-- the lines of a text
abbrev pub lines_of : List ℕ → List (List ℕ)
lines_of text = lines_from [] text

-- what follows the first line of a text, after its LF
abbrev pub rest_of : List ℕ → List ℕ
rest_of [] = []
rest_of (byte ∷ bytes) = if byte == 10 then bytes else rest_of bytes

-- a line that counts nowhere
unfoldable pub is_blank : List ℕ → Bool
is_blank line = nat_le (length line) line_most && not (has_words (words_of line))

-- the lines that count among some
abbrev pub written : List (List ℕ) → List (List ℕ)
written lines = filter (λ line. not (is_blank line)) lines

-- the lines of a text that count
unfoldable pub written_lines : List ℕ → List (List ℕ)
written_lines text = written (lines_of text)

-- the lines of a prefix of a text and of any part of the rest are those of both together
pub record IsCut (prefix rest : List ℕ) : Type 0 where
  pub joins : (more left : List ℕ) → more ++ left ≡ rest
      → written_lines (prefix ++ more) ≡ written_lines prefix ++ written_lines more

-- a text is a prefix with these written lines, cut from the rest
pub record BeginsWith (prefix : List ℕ) (lines : List (List ℕ)) (rest text : List ℕ) : Type 0 where
  pub whole : text ≡ prefix ++ rest
  pub first : written_lines prefix ≡ lines
  pub cut : IsCut prefix rest

-- a text begins with this written line, and this is left after it
abbrev pub IsFirstLine : List ℕ → List ℕ → List ℕ → Type 0
IsFirstLine line rest text = (prefix : List ℕ) × BeginsWith prefix (line ∷ []) rest text

-- the first LF of a text is here
pub record IsNewline (text : List ℕ) (place : ℕ) : Type 0 where
  pub within : place < length text
  pub is : slice_index text place ≡ 10
  pub none_before : (k : ℕ) → k < place → slice_index text k ≢ 10
