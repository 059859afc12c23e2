-- The parts of a sheet, which its heads begin. In an opening or stock round's sheet each TURN line
-- up to line 512 is a head, and opens a written turn. In an operating round's sheet each COMPANY
-- line up to line 512 is one, and opens the company's orders. The lines before the first head
-- belong to no head. A line past 512 has that fault before any other, so it is no head.
use Rattle.std.specs.Prelude.{◌≡◌, ℕ, ◌+◌, Bool, true, false, nat_lt, if◌then◌else◌, List, [], ◌∷◌, length, map, Option}
use Rattle.std.specs.Prelude.{Some, None, Result, Ok, Err, codes, unwrap_or}
use Rattle.order_grammar.specs.Condition.{Ordered}
use Rattle.order_grammar.specs.Version.{ordered_of, reading_in}
use Rattle.order_grammar.specs.declared.condition.Condition.{Condition}
use Rattle.order_grammar.specs.declared.condition.Version.{Version}
use Rattle.order_grammar.specs.declared.fault.Fault.{Fault}
use Rattle.order_grammar.specs.declared.fault.Fault.TheVariants.{PastLastLine}
use Rattle.order_grammar.specs.declared.order.Order.{Order}
use Rattle.order_grammar.specs.declared.order.Order.TheVariants.{Company, Turn}
use Rattle.sheets.specs.File.{sheet_of, version_of}
use Rattle.sheets.specs.Limits.{lines_most}
use Rattle.sheets.specs.Reading.{order_read}
use Rattle.sheets.specs.Sheet.{Unruled, condition_at}
use Rattle.sheets.specs.declared.sheet.NumberedLine.{NumberedLine}
use Rattle.sheets.specs.declared.sheet.ReadLine.{ReadLine}
use Rattle.sheets.specs.declared.sheet.UnreadLine.{UnreadLine}
use Rattle.tables.specs.declared.round.Round.{Round}
use Rattle.tables.specs.declared.round.Round.TheVariants.{Operating}

-- A line where it stands in its sheet: its number, and its order or the first fault that it has
-- there. An order may be under a condition, a fault has none.
pub record Numbered : Type 0 where
  pub number : ℕ
  pub condition : Option Condition
  pub reading : Result Order Fault

-- what a line with this number reads as where it stands, if by itself it reads so
abbrev pub reading_at : ℕ → Result Order Fault → Result Order Fault
reading_at number reading = if nat_lt lines_most number then Err PastLastLine else reading

-- the line with this number that by itself reads so
abbrev pub numbered : ℕ → Result Ordered Fault → Numbered
numbered number reading =
    record { number = number; condition = condition_at number reading; reading = reading_at number (order_read reading) }

-- a line that was read, where it stands
abbrev pub line_read : NumberedLine → Numbered
line_read line =
    record {
      number = line.number;
      condition = line.condition;
      reading = reading_at line.number (order_read (ordered_of line.reading));
    }

-- a line that is not read, where it stands
abbrev pub line_unread : UnreadLine → Numbered
line_unread line = numbered line.number (reading_in line.version line.text.now)

-- a line that was read, with this order
abbrev pub line_with : ReadLine → Order → Numbered
line_with read order = record { number = read.number; condition = read.condition; reading = Ok order }

-- the line with this number that has this fault where it stands
abbrev pub faulty_line : ℕ → Fault → Numbered
faulty_line number fault = record { number = number; condition = None; reading = Err fault }

-- the order that opens a written turn
abbrev pub is_turn : Result Order Fault → Bool
is_turn (Ok Turn) = true
is_turn other = false

-- the order that opens a company's orders
abbrev pub is_company : Result Order Fault → Bool
is_company (Ok (Company company)) = true
is_company other = false

-- a line with this reading opens a part of a sheet for this round
abbrev pub opens_part : Round → Result Order Fault → Bool
opens_part (Operating set number) reading = is_company reading
opens_part round reading = is_turn reading

-- the word with which a line begins that opens a part of a sheet for this round
abbrev pub head_word : Round → List ℕ
head_word (Operating set number) = codes "COMPANY"
head_word round = codes "TURN"

-- a written turn or a company's orders: the head, and the lines after that up to the next head
pub record Part : Type 0 where
  pub head : Numbered
  pub lines : List Numbered

-- lines in their parts: those before the first head, and what the heads open
pub record SheetParts : Type 0 where
  pub before : List Numbered
  pub opened : List Part

-- a head before these parts: it opens the lines that came first
abbrev pub after_head : Numbered → SheetParts → SheetParts
after_head head parts = record { before = []; opened = record { head = head; lines = parts.before } ∷ parts.opened }

-- a line that is no head before these parts
abbrev pub after_line : Numbered → SheetParts → SheetParts
after_line line parts = record { before = line ∷ parts.before; opened = parts.opened }

-- a line before these parts, if readings that pass this test open a part
abbrev pub with_line : (Result Order Fault → Bool) → Numbered → SheetParts → SheetParts
with_line opens line parts = if opens line.reading then after_head line parts else after_line line parts

-- the parts of lines of a file of some version, after this many others
abbrev pub parts_after : Version → (Result Order Fault → Bool) → ℕ → List (List ℕ) → SheetParts
parts_after version opens count [] = record { before = []; opened = [] }
parts_after version opens count (line ∷ lines) =
    with_line opens (numbered (count + 1) (reading_in version line)) (parts_after version opens (count + 1) lines)

-- the parts of the lines of a sheet for a round that are still to come
abbrev pub parts_left : Round → Unruled → SheetParts
parts_left round unruled = parts_after unruled.version (opens_part round) unruled.number unruled.lines

-- the parts of the lines of a sheet for a round
abbrev pub parts_of_sheet : Version → Round → List (List ℕ) → SheetParts
parts_of_sheet version round lines = parts_after version (opens_part round) 0 lines

-- the parts of the sheet of a seat for a round; without a sheet there are none
abbrev pub parts_for : List ℕ → Round → ℕ → SheetParts
parts_for file round seat = parts_of_sheet (version_of file) round (unwrap_or (sheet_of file seat round) [])

-- the lines that each head opens
abbrev pub written_turns_of : SheetParts → List (List Numbered)
written_turns_of parts = map (λ part. part.lines) parts.opened

-- no line is left before the next head
abbrev pub IsAtHead : SheetParts → Type 0
IsAtHead parts = parts.before ≡ []

-- how many lines some written turns have
abbrev pub lines_in_written_turns : List (List Numbered) → ℕ
lines_in_written_turns [] = 0
lines_in_written_turns (written ∷ written_turns) = length written + lines_in_written_turns written_turns

-- how many lines there are; heads do not count
abbrev pub lines_in : SheetParts → ℕ
lines_in parts = length parts.before + lines_in_written_turns (written_turns_of parts)

-- the next line before the next head is taken, if there is one
abbrev pub TakesOrdinary : SheetParts → Option UnreadLine → SheetParts → Type 0
TakesOrdinary old None new = IsAtHead old × (new ≡ old)
TakesOrdinary old (Some line) new = old ≡ after_line (line_unread line) new

-- the next head is taken, if there is one
abbrev pub TakesHead : SheetParts → Option UnreadLine → SheetParts → Type 0
TakesHead old None new = (old.opened ≡ []) × (new ≡ old)
TakesHead old (Some head) new = old ≡ after_head (line_unread head) new
