-- The file to which a file migrates. A file of version 2 stays as it is. In a file of version 1 the
-- first line that is not blank becomes `GAME 1830 2`. Each line whose first word is IF and whose
-- fault is G3 becomes `X`, since in version 2 it could be an order. The ends of lines and all other
-- bytes stay.
use Rattle.std.specs.Prelude.{ℕ, ◌==◌, Bool, true, false, ◌&&◌, if◌then◌else◌, List, [], ◌∷◌, ◌++◌, map, codes, Option}
use Rattle.std.specs.Prelude.{Some, None, Result, Err}
use Rattle.std.specs.List.{flat_map}
use Rattle.order_grammar.specs.Line.{reading_of}
use Rattle.order_grammar.specs.Words.{words_of, first_of_words, same_word}
use Rattle.order_grammar.specs.declared.condition.Version.{Version}
use Rattle.order_grammar.specs.declared.condition.Version.TheVariants.{One}
use Rattle.order_grammar.specs.declared.fault.Fault.{Fault}
use Rattle.order_grammar.specs.declared.fault.Fault.TheVariants.{UnknownWord}
use Rattle.order_grammar.specs.declared.order.Order.{Order}
use Rattle.sheets.specs.File.{header_version}
use Rattle.sheets.specs.Text.{is_blank, without_return, written_lines}

-- a line of a text, and what ends it there: an LF, a CR and an LF, or nothing if the text ends
-- first
pub record EndedLine : Type 0 where
  pub line : List ℕ
  pub end : List ℕ

-- the CR at the end of the bytes before an LF, if it is there
abbrev pub return_of : List ℕ → List ℕ
return_of [] = []
return_of (byte ∷ []) = if byte == 13 then 13 ∷ [] else []
return_of (byte ∷ next ∷ bytes) = return_of (next ∷ bytes)

-- the line of the bytes before an LF
abbrev pub ended_by_newline : List ℕ → EndedLine
ended_by_newline bytes = record { line = without_return bytes; end = return_of bytes ++ 10 ∷ [] }

-- a last line without LF, if it has any bytes
abbrev pub last_ended : List ℕ → List EndedLine
last_ended [] = []
last_ended (byte ∷ bytes) = record { line = byte ∷ bytes; end = [] } ∷ []

-- the lines of a text with their ends, of whose first line these bytes have come
abbrev pub ended_lines_from : List ℕ → List ℕ → List EndedLine
ended_lines_from line [] = last_ended line
ended_lines_from line (byte ∷ bytes) =
    if byte == 10 then ended_by_newline line ∷ ended_lines_from [] bytes else ended_lines_from (line ++ byte ∷ []) bytes

-- the lines of a text with their ends
unfoldable pub ended_lines : List ℕ → List EndedLine
ended_lines text = ended_lines_from [] text

-- the bytes of a line with its end
abbrev pub ended_text : EndedLine → List ℕ
ended_text ended = ended.line ++ ended.end

-- the text of lines with their ends
abbrev pub text_of_ended : List EndedLine → List ℕ
text_of_ended lines = flat_map ended_text lines

-- the fault of a line whose first word is of no form: G3
abbrev pub is_unknown : Result Order Fault → Bool
is_unknown (Err UnknownWord) = true
is_unknown other = false

-- a line of a file of version 1 whose first word is IF and whose fault is G3
unfoldable pub is_if_line : List ℕ → Bool
is_if_line line = same_word (first_of_words (words_of line)) (codes "IF") && is_unknown (reading_of line)

-- the line of a file of version 2 that stands for a line of a file of version 1
unfoldable pub line_in_two : List ℕ → List ℕ
line_in_two line = if is_if_line line then codes "X" else line

-- the line of a file of version 2 that stands for a line of a file of version 1, with its end
abbrev pub ended_in_two : EndedLine → EndedLine
ended_in_two ended = record { line = line_in_two ended.line; end = ended.end }

-- the header line of a file of version 2
abbrev pub header_of_two : List ℕ
header_of_two = codes "GAME 1830 2"

-- the lines of a file of version 2 that stand for those of a file of version 1: the first that is
-- not blank is the header
abbrev pub lines_in_two : List EndedLine → List EndedLine
lines_in_two [] = []
lines_in_two (first ∷ lines) =
    if is_blank first.line
    then first ∷ lines_in_two lines
    else record { line = header_of_two; end = first.end } ∷ map ended_in_two lines

-- the file of version 2 that stands for a file of version 1
unfoldable pub file_in_two : List ℕ → List ℕ
file_in_two file = text_of_ended (lines_in_two (ended_lines file))

-- the text of version 2 that stands for a text of version 1 after the header line
unfoldable pub body_in_two : List ℕ → List ℕ
body_in_two text = text_of_ended (map ended_in_two (ended_lines text))

-- the version that the first of some written lines names, if it is a header line
abbrev pub named_version : List (List ℕ) → Option Version
named_version [] = None
named_version (line ∷ lines) = header_version (reading_of line)

-- the file to which a file migrates, by the version that it names
abbrev pub migrated_from : Option Version → List ℕ → List ℕ
migrated_from (Some One) file = file_in_two file
migrated_from other file = file

-- the file to which a file migrates
unfoldable pub migrated : List ℕ → List ℕ
migrated file = migrated_from (named_version (written_lines file)) file
