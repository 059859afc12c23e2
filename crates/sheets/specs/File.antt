-- What an order file says: whether it is refused, who plays, the sheet of a player for a round, and
-- the lines that are in no sheet.
use Rattle.std.specs.Prelude.{option_map}
use Rattle.std.specs.Prelude.{◌≡◌, ℕ, ◌==◌, ◌+◌, Bool, true, false, ◌&&◌, not, nat_le, nat_lt, if◌then◌else◌, List, []}
use Rattle.std.specs.Prelude.{◌∷◌, ◌++◌, length, codes, Option, Some, None, Result, Ok, Err, IsOk, take_while, is_some}
use Rattle.std.specs.Prelude.{unwrap_or}
use Rattle.std.specs.Option.{option_or}
use Rattle.std.specs.List.{list_all, list_any, range_with_len}
use Rattle.order_grammar.specs.Line.{reading_of}
use Rattle.order_grammar.specs.Version.{reading_in}
use Rattle.order_grammar.specs.Words.{words_of, first_of_words, same_word}
use Rattle.order_grammar.specs.declared.condition.Version.{Version}
use Rattle.order_grammar.specs.declared.condition.Version.TheVariants.{One, Two}
use Rattle.order_grammar.specs.declared.fault.Fault.{Fault}
use Rattle.order_grammar.specs.declared.fault.Fault.TheVariants.{OutOfPlace, UnknownPlayer}
use Rattle.order_grammar.specs.declared.order.Order.{Order}
use Rattle.order_grammar.specs.declared.order.Order.TheVariants as order
use Rattle.sheets.specs.Limits.{file_most, sheets_most}
use Rattle.sheets.specs.Reading.{order_read}
use Rattle.sheets.specs.Text.{written_lines}
use Rattle.sheets.specs.declared.fault.FileFault.{FileFault}
use Rattle.sheets.specs.declared.fault.FileFault.TheVariants.{Header, Players, TooLong, TooManySheets, Memory}
use Rattle.sheets.specs.declared.sheet_key.SheetKey.{SheetKey}
use Rattle.tables.specs.Round.{same_round}
use Rattle.tables.specs.declared.round.Round.{Round}
use Rattle.tables.specs.declared.seat.Seat.{Seat}

-- the code of a fault, which the report of a refused file prints; no report prints that of a failed
-- allocation, since the file is not refused
abbrev pub code_of_fault : FileFault → List ℕ
code_of_fault Header = codes "F1"
code_of_fault Players = codes "F2"
code_of_fault TooLong = codes "F3"
code_of_fault TooManySheets = codes "F4"
code_of_fault Memory = codes "F5"

-- what is wrong, in a player's words
abbrev pub sentence_of_fault : FileFault → List ℕ
sentence_of_fault Header = codes "the first line that is not blank is neither `GAME 1830 1` nor `GAME 1830 2`"
sentence_of_fault Players = codes "the next line does not name three to six different players"
sentence_of_fault TooLong = codes "the file has more than 67,108,864 bytes"
sentence_of_fault TooManySheets = codes "the file has more than 65,536 good SHEET lines"
sentence_of_fault Memory = codes "allocation failed"

-- the version with this number
abbrev pub version_numbered : ℕ → Option Version
version_numbered number = if number == 1 then Some One else (if number == 2 then Some Two else None)

-- the version that the order of a header line names: of the files of game 1830
abbrev pub header_version : Result Order Fault → Option Version
header_version (Ok (order.Game game version)) = if game == 1830 then version_numbered version else None
header_version other = None

-- the version of a file with these written lines: that which its header line names
abbrev pub version_in : List (List ℕ) → Version
version_in [] = One
version_in (line ∷ lines) = unwrap_or (header_version (reading_of line)) One

-- the version of a file
unfoldable pub version_of : List ℕ → Version
version_of file = version_in (written_lines file)

-- no name is twice
abbrev pub all_differ : List (List ℕ) → Bool
all_differ [] = true
all_differ (name ∷ names) = not (list_any (same_word name) names) && all_differ names

-- 3 to 6 players, if they differ
abbrev pub players_from : List (List ℕ) → Option (List (List ℕ))
players_from names =
    if nat_le 3 (length names) && (nat_le (length names) 6 && all_differ names) then Some names else None

-- the players that a line names
abbrev pub players_named : Result Order Fault → Option (List (List ℕ))
players_named (Ok (order.Players names)) = players_from names.items
players_named other = None

-- the place of a name among the players
abbrev pub seat_from : ℕ → List (List ℕ) → List ℕ → Option Seat
seat_from seat [] name = None
seat_from seat (player ∷ players) name =
    if same_word player name then Some (record { 0 = seat }) else seat_from (seat + 1) players name

-- players with their seats, the first of whom has this one
abbrev pub with_seats : ℕ → List (List ℕ) → List (List ℕ × Seat)
with_seats seat [] = []
with_seats seat (player ∷ players) = (player, record { 0 = seat }) ∷ with_seats (seat + 1) players

-- a line whose first word is SHEET
unfoldable pub is_sheet_line : List ℕ → Bool
is_sheet_line line = same_word (first_of_words (words_of line)) (codes "SHEET")

-- the key of a sheet: a seat and a round
abbrev pub sheet_key_at : ℕ → Round → SheetKey
sheet_key_at seat round = record { seat = record { 0 = seat }; round = round }

-- the sheet that a line with this order begins: that of a player
abbrev pub sheet_key_begun : List (List ℕ) → Result Order Fault → Option SheetKey
sheet_key_begun players (Ok (order.Sheet name round)) =
    option_map (λ seat. record { seat = seat; round = round }) (seat_from 0 players name)
sheet_key_begun players other = None

-- the sheet that a line begins whose first word is SHEET, which all versions read the same; a line
-- that begins one is a good SHEET line
unfoldable pub begins : List (List ℕ) → List ℕ → Option SheetKey
begins players line = if is_sheet_line line then sheet_key_begun players (reading_of line) else None

-- the same seat and the same round
abbrev pub same_sheet_key : SheetKey → SheetKey → Bool
same_sheet_key a b = a.seat.0 == b.seat.0 && same_round a.round b.round

-- the lines up to the next whose first word is SHEET
abbrev pub sheet_lines : List (List ℕ) → List (List ℕ)
sheet_lines lines = take_while (λ line. not (is_sheet_line line)) lines

-- these lines, if they are of the sheet that a line begins
abbrev pub lines_begun : SheetKey → List (List ℕ) → Option SheetKey → Option (List (List ℕ))
lines_begun sheet_key lines None = None
lines_begun sheet_key lines (Some begun) = if same_sheet_key begun sheet_key then Some lines else None

-- the lines after the last good SHEET line of a sheet: a later sheet replaces an earlier one whole
abbrev pub sheet_in : List (List ℕ) → List (List ℕ) → SheetKey → Option (List (List ℕ))
sheet_in players [] sheet_key = None
sheet_in players (line ∷ lines) sheet_key =
    option_or (sheet_in players lines sheet_key) (lines_begun sheet_key (sheet_lines lines) (begins players line))

-- how many good SHEET lines there are
abbrev pub good_lines : List (List ℕ) → List (List ℕ) → ℕ
good_lines players [] = 0
good_lines players (line ∷ lines) = (if is_some (begins players line) then 1 else 0) + good_lines players lines

-- The code of a line that is in no sheet, by its reading. It is its own fault; otherwise its sheet
-- is for a player who does not play, or it is out of place.
abbrev pub fault_of_reading : Result Order Fault → Fault
fault_of_reading (Err fault) = fault
fault_of_reading (Ok (order.Sheet name round)) = UnknownPlayer
fault_of_reading (Ok other) = OutOfPlace

-- the code of a line that is in no sheet of a file of some version
unfoldable pub unread_fault : Version → List ℕ → Fault
unread_fault version line = fault_of_reading (order_read (reading_in version line))

-- the codes of the lines that are in no sheet, given whether a sheet is open before them. A good
-- SHEET line opens a sheet. One with a fault closes the sheet before it, and is in no sheet. Any
-- other line is in the open sheet, or in none if none is open.
abbrev pub unread_in : Version → List (List ℕ) → Bool → List (List ℕ) → List Fault
unread_in version players inside [] = []
unread_in version players inside (line ∷ lines) =
    if (if is_sheet_line line then is_some (begins players line) else inside) then
    unread_in version players true lines else unread_fault version line ∷ unread_in version players false lines

-- a file that is not refused: its players, and the lines after their line
pub record Content : Type 0 where
  pub players : List (List ℕ)
  pub body : List (List ℕ)

-- what the body says, by the players that are named before it
abbrev pub body_content : List (List ℕ) → Option (List (List ℕ)) → Result Content FileFault
body_content body None = Err Players
body_content body (Some players) =
    if nat_lt sheets_most (good_lines players body) then Err TooManySheets else Ok
    (record { players = players; body = body })

-- what the lines after the header line say
abbrev pub players_content : List (List ℕ) → Result Content FileFault
players_content [] = Err Players
players_content (line ∷ lines) = body_content lines (players_named (reading_of line))

-- what the written lines of a file say
abbrev pub lines_content : List (List ℕ) → Result Content FileFault
lines_content [] = Err Header
lines_content (line ∷ lines) = if is_some (header_version (reading_of line)) then players_content lines else Err Header

-- what a file says, or why it is refused
unfoldable pub content_of : List ℕ → Result Content FileFault
content_of file = if nat_lt file_most (length file) then Err TooLong else lines_content (written_lines file)

-- why a file has no sheets: it is refused by this fault, or an allocation failed
abbrev pub Fails : FileFault → Result Content FileFault → Type 0
Fails Memory content = Unit {0}
Fails fault content = content ≡ Err fault

-- the players, if there are any
abbrev pub players_in : Result Content FileFault → List (List ℕ)
players_in (Ok content) = content.players
players_in (Err fault) = []

-- the lines after the players line, if there are any
abbrev pub body_in : Result Content FileFault → List (List ℕ)
body_in (Ok content) = content.body
body_in (Err fault) = []

-- a file that is not refused
abbrev pub IsAccepted : List ℕ → Type 0
IsAccepted file = IsOk (content_of file)

-- the players of a file in the order of their seats
unfoldable pub players_of : List ℕ → List (List ℕ)
players_of file = players_in (content_of file)

-- the lines of a file after its players line
unfoldable pub body_of : List ℕ → List (List ℕ)
body_of file = body_in (content_of file)

-- what the player of a seat last sent for a round: its lines
unfoldable pub sheet_of : List ℕ → ℕ → Round → Option (List (List ℕ))
sheet_of file seat round = sheet_in (players_of file) (body_of file) (sheet_key_at seat round)

-- every seat has a sheet for the round
abbrev pub all_posted : List ℕ → Round → Bool
all_posted file round = list_all (λ seat. is_some (sheet_of file seat round))
    (range_with_len 0 (length (players_of file)))

-- the codes of the unread lines, in order
unfoldable pub unread_of : List ℕ → List Fault
unread_of file = unread_in (version_of file) (players_of file) false (body_of file)

-- a sheet as it was sent: for which round, and its lines
pub record Sent : Type 0 where
  pub round : Round
  pub lines : List (List ℕ)

-- the sheet that a line begins, if it is of this seat
abbrev pub sent_by : ℕ → List (List ℕ) → Option SheetKey → List Sent
sent_by seat lines None = []
sent_by seat lines (Some sheet_key) =
    if sheet_key.seat.0 == seat then record { round = sheet_key.round; lines = lines } ∷ [] else []

-- the sheets of a seat that these lines begin, in order
abbrev pub sent_in : List (List ℕ) → List (List ℕ) → ℕ → List Sent
sent_in players [] seat = []
sent_in players (line ∷ lines) seat = sent_by seat (sheet_lines lines) (begins players line)
    ++ sent_in players lines seat

-- the sheets that the player of a seat sent, in the order of the file
unfoldable pub posts_of : List ℕ → ℕ → List Sent
posts_of file seat = sent_in (players_of file) (body_of file) seat

-- the last of some sheets that is for a round
abbrev pub last_for : Round → List Sent → Option (List (List ℕ))
last_for round [] = None
last_for round (sent ∷ more) = option_or (last_for round more)
    (if same_round sent.round round then Some sent.lines else None)
