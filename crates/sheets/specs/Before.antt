-- What a file said by the limits of before, 4,194,304 bytes and 4,096 good SHEET lines, and that
-- larger limits keep it.
use Rattle.sheets.specs.File.{header_version}
use Rattle.std.specs.Prelude.{is_some}
use Rattle.std.specs.Prelude.{◌≡◌, ℕ, nat_lt, if◌then◌else◌, List, [], ◌∷◌, length, Option, Some, None, Result, Ok, Err}
use Rattle.order_grammar.specs.Line.{reading_of}
use Rattle.sheets.specs.File.{Content, content_of, good_lines, players_named}
use Rattle.sheets.specs.Text.{written_lines}
use Rattle.sheets.specs.declared.fault.FileFault.{FileFault}
use Rattle.sheets.specs.declared.fault.FileFault.TheVariants.{Header, Players, TooLong, TooManySheets}

-- the most bytes of an order file
abbrev pub file_before : ℕ
file_before = 4194304

-- the most good SHEET lines of one
abbrev pub sheets_before : ℕ
sheets_before = 4096

-- what the body said, by the players that are named before it
abbrev pub body_before : List (List ℕ) → Option (List (List ℕ)) → Result Content FileFault
body_before body None = Err Players
body_before body (Some players) =
    if nat_lt sheets_before (good_lines players body) then Err TooManySheets else Ok
    (record { players = players; body = body })

-- what the lines after the header line said
abbrev pub players_before : List (List ℕ) → Result Content FileFault
players_before [] = Err Players
players_before (line ∷ lines) = body_before lines (players_named (reading_of line))

-- what the written lines of a file said
abbrev pub lines_before : List (List ℕ) → Result Content FileFault
lines_before [] = Err Header
lines_before (line ∷ lines) = if is_some (header_version (reading_of line)) then players_before lines else Err Header

-- what a file said, or why it was refused
unfoldable pub content_before : List ℕ → Result Content FileFault
content_before file = if nat_lt file_before (length file) then Err TooLong else lines_before (written_lines file)

-- a file that was within those limits, be it refused or not, says what it said
abbrev pub LargerLimitsChangeNothing : Type 0
LargerLimitsChangeNothing =
    (file : List ℕ) → ¬ (content_before file ≡ Err TooLong) → ¬ (content_before file ≡ Err TooManySheets)
    → content_of file ≡ content_before file
